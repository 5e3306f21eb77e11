-- Telegram words (document 01, "Station": poll record). The list of widths says how a word is cut, most significant bit first.
-- Assumes nothing.
use Rattle.std.specs.Prelude.{ℕ, ◌^◌, ◌<◌, List, [], ◌∷◌, cond, eqb, leb}
use Rattle.codec_fields.specs.Fields.{is_one, bit_number, zeros_or14, put_all, reads}
use Rattle.codec_telegrams.specs.declared.ResponseState.{ResponseState}
use Rattle.codec_telegrams.specs.declared.ResponseState.TheVariants.{Slave, MasterNotReady, MasterWithoutToken, MasterInRing}
use Rattle.codec_telegrams.specs.declared.Telegram.{Telegram}
use Rattle.codec_telegrams.specs.declared.Telegram.TheVariants.{Token, ShortConfirmation, Request, Response}

-- station type: 0 slave, 1 not ready, 2 without token, 3 in ring
abbrev pub response_number : ResponseState → ℕ
response_number Slave = 0
response_number MasterNotReady = 1
response_number MasterWithoutToken = 2
response_number MasterInRing = 3

-- the station type of a number of two bits (of any other number in ring)
unfoldable pub response_state_of : ℕ → ResponseState
response_state_of n = cond (eqb n 0) Slave (cond (eqb n 1) MasterNotReady (cond (eqb n 2) MasterWithoutToken MasterInRing))

-- kind 2, destination 7, source 7, status request 1, station type 2, status 4, zero 9
abbrev pub telegram_widths : List ℕ
telegram_widths = 2 ∷ 7 ∷ 7 ∷ 1 ∷ 2 ∷ 4 ∷ 9 ∷ []

-- what a telegram word says: kind 0 token, 1 short confirmation, 2 request, 3 response
unfoldable pub telegram_of : ℕ → Telegram
telegram_of w =
    reads telegram_widths
    (λ kind destination source request type status spare.
    cond (eqb kind 0) (Token destination source)
    (cond (eqb kind 1) ShortConfirmation
    (cond (eqb kind 2) (Request destination source (is_one request)) (Response destination source (response_state_of type) status))))
    w

-- 14 where a bit is one that should be zero. The status-request bit belongs to requests, type and status to responses, addresses
-- to all but short confirmations; elsewhere zero. Whatever stands above the 32 bits should be zero, too
unfoldable pub telegram_refusal : ℕ → ℕ
telegram_refusal w =
    cond (leb (2 ^ 32) w) 14
    (reads telegram_widths
    (λ kind destination source request type status spare.
    cond (eqb kind 0) (zeros_or14 (request ∷ type ∷ status ∷ spare ∷ []))
    (cond (eqb kind 1) (zeros_or14 (destination ∷ source ∷ request ∷ type ∷ status ∷ spare ∷ []))
    (cond (eqb kind 2) (zeros_or14 (type ∷ status ∷ spare ∷ [])) (zeros_or14 (request ∷ spare ∷ [])))))
    w)

-- the values of a telegram's fields, in that order; fields that its kind does not have are zero
abbrev pub telegram_values : Telegram → List ℕ
telegram_values (Token destination source) = 0 ∷ destination ∷ source ∷ 0 ∷ 0 ∷ 0 ∷ 0 ∷ []
telegram_values ShortConfirmation = 1 ∷ 0 ∷ 0 ∷ 0 ∷ 0 ∷ 0 ∷ 0 ∷ []
telegram_values (Request destination source request) = 2 ∷ destination ∷ source ∷ bit_number request ∷ 0 ∷ 0 ∷ 0 ∷ []
telegram_values (Response destination source state status) = 3 ∷ destination ∷ source ∷ 0 ∷ response_number state ∷ status ∷ 0 ∷ []

-- the word that says a telegram
unfoldable pub telegram_word : Telegram → ℕ
telegram_word t = put_all 0 telegram_widths (telegram_values t)

-- a telegram whose numbers fit their widths: addresses to 127, status to 15
abbrev pub TelegramFits : Telegram → Type 0
TelegramFits (Token destination source) = (destination < 2 ^ 7) × (source < 2 ^ 7)
TelegramFits ShortConfirmation = Unit {0}
TelegramFits (Request destination source request) = (destination < 2 ^ 7) × (source < 2 ^ 7)
TelegramFits (Response destination source state status) = (destination < 2 ^ 7) × (source < 2 ^ 7) × (status < 2 ^ 4)
