-- An answer and its 64 bits (document 01, "Station": answer). Assumes nothing.
use Rattle.std.specs.Prelude.{ℕ, ◌^◌, ◌<◌, ◌≤◌, ◌≡◌, List, [], ◌∷◌, Bool, true, false, Option, Some, None, cond, not, eqb, ltb, leb}
use Rattle.codec_fields.specs.Fields.{is_one, bit_number, put_all, reads}
use Rattle.codec_telegrams.specs.Words.{response_number, response_state_of}
use Rattle.codec_answers.specs.declared.Outcome.{Outcome}
use Rattle.codec_answers.specs.declared.Outcome.TheVariants.{Offline, Transmission, Bus, Delay}
use Rattle.codec_answers.specs.declared.Outcome.TheVariants as outcome
use Rattle.codec_answers.specs.declared.Sent.{Sent}
use Rattle.codec_answers.specs.declared.Sent.TheVariants.{Nothing, Token, StatusRequest, StatusResponse, Application}
use Rattle.codec_answers.specs.declared.Notice.{Notice}
use Rattle.codec_answers.specs.declared.Notice.TheVariants.{NoNotice, Reply, Timeout}
use Rattle.codec_answers.specs.declared.SentFields.{SentFields}
use Rattle.codec_answers.specs.declared.NoticeFields.{NoticeFields}
use Rattle.codec_answers.specs.declared.Answer.{Answer}

-- the largest state: 0 Offline, 1 ListenToken, 2 ActiveIdle, 3 UseToken, 4 ClaimToken, 5 AwaitDataResponse, 6 PassToken,
-- 7 CheckTokenPass, 8 AwaitStatusResponse, 9 PassiveIdle (document 02)
abbrev pub last_state : ℕ
last_state = 9

-- outcome: 0 none, 1 offline, 2 transmission, 3 bus, 4 delay
abbrev pub outcome_number : Outcome → ℕ
outcome_number outcome.None = 0
outcome_number Offline = 1
outcome_number Transmission = 2
outcome_number Bus = 3
outcome_number Delay = 4

-- the outcome of a number; none where there is no such outcome
unfoldable pub outcome_of : ℕ → Outcome
outcome_of n = cond (eqb n 1) Offline (cond (eqb n 2) Transmission (cond (eqb n 3) Bus (cond (eqb n 4) Delay outcome.None)))

-- the six fields of what was sent
abbrev pub sending : ℕ → ℕ → ℕ → ℕ → Bool → ℕ → SentFields
sending kind destination state application high bytes =
    record { kind = kind; destination = destination; state = state; application = application; high = high; bytes = bytes }

-- how many bytes were sent: a token has 3, an FDL status request or response 6, an application's telegram as many as it said
abbrev pub sent_bytes : Sent → ℕ
sent_bytes Nothing = 0
sent_bytes (Token destination) = 3
sent_bytes (StatusRequest destination) = 6
sent_bytes (StatusResponse destination state) = 6
sent_bytes (Application destination application high bytes) = bytes

-- sent: kind, destination, response type, application, high, bytes
unfoldable pub sent_fields : Sent → SentFields
sent_fields Nothing = sending 0 0 0 0 false (sent_bytes Nothing)
sent_fields (Token destination) = sending 1 destination 0 0 false (sent_bytes (Token destination))
sent_fields (StatusRequest destination) = sending 2 destination 0 0 false (sent_bytes (StatusRequest destination))
sent_fields (StatusResponse destination state) = sending 3 destination (response_number state) 0 false (sent_bytes (StatusResponse destination state))
sent_fields (Application destination application high bytes) =
    sending 4 destination 0 application high (sent_bytes (Application destination application high bytes))

-- what was sent, by its fields; nothing where there is no such kind
unfoldable pub sent_from : SentFields → Sent
sent_from f =
    cond (eqb f.kind 1) (Token f.destination)
    (cond (eqb f.kind 2) (StatusRequest f.destination)
    (cond (eqb f.kind 3) (StatusResponse f.destination (response_state_of f.state))
    (cond (eqb f.kind 4) (Application f.destination f.application f.high f.bytes) Nothing)))

-- the three fields of a notice
abbrev pub telling : ℕ → ℕ → ℕ → NoticeFields
telling kind application address = record { kind = kind; application = application; address = address }

-- notice: kind (reply 1, timeout 2), its application, its address
unfoldable pub notice_fields : Notice → NoticeFields
notice_fields NoNotice = telling 0 0 0
notice_fields (Reply application address) = telling 1 application address
notice_fields (Timeout application address) = telling 2 application address

-- a notice by its fields; none where there is no such kind
unfoldable pub notice_from : NoticeFields → Notice
notice_from f = cond (eqb f.kind 1) (Reply f.application f.address) (cond (eqb f.kind 2) (Timeout f.application f.address) NoNotice)

-- the answer of a refused entry: number, state, next application and next station
unfoldable pub refused_answer : ℕ → ℕ → ℕ → ℕ → Answer
refused_answer refusal state application station =
    record {
      refusal = refusal;
      outcome = outcome.None;
      state = state;
      sent = Nothing;
      consumed = 0;
      notice = NoNotice;
      next_application = application;
      next_station = station;
    }

-- refusal 5, outcome 3, state 4, sent kind 3, destination 7, response type 2, application 3, high 1, bytes 8, telegrams consumed 4,
-- notice 2, its application 3, its address 7, next application 3, next station 7, zero 2
abbrev pub answer_widths : List ℕ
answer_widths = 5 ∷ 3 ∷ 4 ∷ 3 ∷ 7 ∷ 2 ∷ 3 ∷ 1 ∷ 8 ∷ 4 ∷ 2 ∷ 3 ∷ 7 ∷ 3 ∷ 7 ∷ 2 ∷ []

-- the values of an answer's fields, in that order
abbrev pub answer_values : Answer → List ℕ
answer_values a =
    a.refusal ∷ outcome_number a.outcome ∷ a.state ∷ (sent_fields a.sent).kind ∷ (sent_fields a.sent).destination ∷ (sent_fields a.sent).state
    ∷ (sent_fields a.sent).application ∷ bit_number (sent_fields a.sent).high ∷ (sent_fields a.sent).bytes ∷ a.consumed ∷ (notice_fields a.notice).kind
    ∷ (notice_fields a.notice).application ∷ (notice_fields a.notice).address ∷ a.next_application ∷ a.next_station ∷ 0 ∷ []

-- an answer's 64 bits
unfoldable pub answer_word : Answer → ℕ
answer_word a = put_all 0 answer_widths (answer_values a)

-- what the fields of a word say, its refusal left out
unfoldable pub full_of : ℕ → Answer
full_of w =
    reads answer_widths
    (λ refusal outcome state kind destination type application high bytes consumed notice its-application its-address next_application next_station spare.
    record {
      refusal = 0;
      outcome = outcome_of outcome;
      state = state;
      sent = sent_from (sending kind destination type application (is_one high) bytes);
      consumed = consumed;
      notice = notice_from (telling notice its-application its-address);
      next_application = next_application;
      next_station = next_station;
    })
    w

-- what the fields of a word say; with a refusal only the fields that a refused entry has
unfoldable pub answer_of : ℕ → Answer
answer_of w =
    reads answer_widths
    (λ refusal outcome state kind destination type application high bytes consumed notice its-application its-address next_application next_station spare.
    cond (eqb refusal 0) (full_of w) (refused_answer refusal state next_application next_station))
    w

-- the refusals that an answer can have: none, or 12 to 16 (16, passive, in answers of earlier versions alone)
unfoldable pub refusal_known : ℕ → Bool
refusal_known n = cond (eqb n 0) true (cond (ltb n 12) false (leb n 16))

-- an application that sends sends a byte
unfoldable pub sent_meant : Sent → Bool
sent_meant Nothing = true
sent_meant (Token destination) = true
sent_meant (StatusRequest destination) = true
sent_meant (StatusResponse destination state) = true
sent_meant (Application destination application high bytes) = not (eqb bytes 0)

-- an answer whose numbers lie in document 01's ranges; whether they go together is the station's matter
unfoldable pub meant : Answer → Bool
meant a = cond (ltb last_state a.state) false (cond (ltb 8 a.consumed) false (cond (sent_meant a.sent) (refusal_known a.refusal) false))

-- the answer whose word this is, if there is one
unfoldable pub unpack_of : ℕ → Option Answer
unpack_of w = cond (eqb (answer_word (answer_of w)) w) (cond (meant (answer_of w)) (Some (answer_of w)) None) None

-- what was sent, with numbers that fit their widths
abbrev pub SentFits : Sent → Type 0
SentFits Nothing = Unit {0}
SentFits (Token destination) = destination < 2 ^ 7
SentFits (StatusRequest destination) = destination < 2 ^ 7
SentFits (StatusResponse destination state) = destination < 2 ^ 7
SentFits (Application destination application high bytes) = (destination < 2 ^ 7) × (application < 2 ^ 3) × (0 < bytes) × (bytes < 2 ^ 8)

-- a notice with numbers that fit their widths
abbrev pub NoticeFits : Notice → Type 0
NoticeFits NoNotice = Unit {0}
NoticeFits (Reply application address) = (application < 2 ^ 3) × (address < 2 ^ 7)
NoticeFits (Timeout application address) = (application < 2 ^ 3) × (address < 2 ^ 7)

-- an answer within document 01's ranges: numbers that fit, a known refusal, and with a refusal nothing but what a refused entry has
pub record Fits (a : Answer) : Type 0 where
  pub refusal : refusal_known a.refusal ≡ true
  pub plain : (a.refusal ≡ 0 → ⊥) → a ≡ refused_answer a.refusal a.state a.next_application a.next_station
  pub state : a.state ≤ last_state
  pub sent : SentFits a.sent
  pub consumed : a.consumed ≤ 8
  pub notice : NoticeFits a.notice
  pub application : a.next_application < 2 ^ 3
  pub station : a.next_station < 2 ^ 7
