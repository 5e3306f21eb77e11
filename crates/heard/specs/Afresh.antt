-- The summary worked out afresh (request P7), from the telegrams that were consumed and their clocks alone: no table, no station.
-- Assumes nothing.
use Rattle.std.specs.Prelude.{ℕ, ◌^◌, ◌<◌, List, [], ◌∷◌, Option, None, Some, Bool, false, cond, length, replicate, eqb}
use Rattle.refusals.specs.Refusals.{answered}
use Rattle.codec_fields.specs.Fields.{up_to}
use Rattle.codec_telegrams.specs.declared.Telegram.{Telegram}
use Rattle.codec_telegrams.specs.declared.Telegram.TheVariants.{Token, ShortConfirmation, Request, Response}
use Rattle.heard.specs.declared.AddressEntry.{AddressEntry}
use Rattle.heard.specs.Heard.{LastType, Found, most_times, heard_refusal, Hearing}

-- whether a telegram was sent by an address; a short confirmation was sent by none
abbrev pub sent_by : ℕ → Telegram → Bool
sent_by address (Token destination source) = eqb source address
sent_by address ShortConfirmation = false
sent_by address (Request destination source request) = eqb source address
sent_by address (Response destination source state status) = eqb source address

-- those that an address sent, in their order
unfoldable pub of_address : ℕ → List Hearing → List Hearing
of_address address [] = []
of_address address (h ∷ hs) = cond (sent_by address h.telegram) (h ∷ of_address address hs) (of_address address hs)

-- the clock of the last of them, or the one given where there is none
unfoldable pub last_clock : ℕ → List Hearing → ℕ
last_clock clock [] = clock
last_clock clock (h ∷ hs) = last_clock h.clock hs

-- a station type after a telegram: a response says it, any other leaves it
abbrev pub type_after : LastType → Telegram → LastType
type_after type (Token destination source) = type
type_after type ShortConfirmation = type
type_after type (Request destination source request) = type
type_after type (Response destination source state status) = Some state

-- the station type of the last response among them, or the one given where there is none
unfoldable pub last_response : LastType → List Hearing → LastType
last_response type [] = type
last_response type (h ∷ hs) = last_response (type_after type h.telegram) hs

-- what the telegrams of an address come to: as many as they are, up to the largest count; the clock of the first and of the last;
-- the station type of the last response
unfoldable pub found_in : List Hearing → Option AddressEntry
found_in [] = None
found_in (h ∷ hs) =
    Some (record { first = h.clock; last = last_clock h.clock hs; times = up_to most_times (length (h ∷ hs)); last_type = last_response None (h ∷ hs) })

-- what is said of an address, worked out afresh: 26 above 125, else what its telegrams come to
unfoldable pub afresh_of : List Hearing → ℕ → Found
afresh_of hs address = answered (heard_refusal address) (found_in (of_address address hs))

-- clocks are of 48 bits, as a poll record's are
abbrev pub Clocked : List Hearing → Type 0
Clocked [] = Unit {0}
Clocked (h ∷ hs) = (h.clock < 2 ^ 48) × Clocked hs

-- a table to begin with: an entry for each of the 126 addresses, none heard
abbrev pub table_length : ℕ
table_length = 2142

abbrev pub fresh_table : List ℕ
fresh_table = replicate table_length 0
