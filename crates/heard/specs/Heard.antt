-- Who was heard, and when (request P7): an entry for each of the 126 addresses in a lent table. Assumes nothing.
use Rattle.std.specs.Prelude.{ℕ, zero, suc, ◌+◌, ◌-◌, ◌*◌, ◌^◌, List, [], ◌∷◌, ◌++◌, Option, None, Some, Result, Ok, Err, cond, length, take, drop, eqb, ltb}
use Rattle.codec_fields.specs.Fields.{load_of, low_bytes}
use Rattle.refusals.specs.declared.refusal.Refusal.{Refusal}
use Rattle.refusals.specs.Refusals.{number_of, answered}
use Rattle.codec_telegrams.specs.declared.ResponseState.{ResponseState}
use Rattle.codec_telegrams.specs.declared.Telegram.{Telegram}
use Rattle.codec_telegrams.specs.declared.Telegram.TheVariants.{Token, ShortConfirmation, Request, Response}
use Rattle.codec_telegrams.specs.Words.{response_number, response_state_of}
use Rattle.codec_records.specs.Records.{head_of, telegram_at}
use Rattle.heard.specs.declared.AddressEntry.{AddressEntry}

-- the last address that is kept, the bytes of an entry, the most that times heard are counted to
abbrev pub last_address : ℕ
last_address = 125

abbrev pub entry_length : ℕ
entry_length = 17

abbrev pub most_times : ℕ
most_times = 2 ^ 32 - 1

-- refusal 26: an address above 125
unfoldable pub heard_refusal : ℕ → ℕ
heard_refusal address = cond (ltb last_address address) 26 0

-- The station type that an address gave in its last response; none where no response was heard.
abbrev pub LastType : Type 0
LastType = Option ResponseState

-- What is said of an address: its entry, none where it was never heard, or the refusal of the question.
abbrev pub Found : Type 0
Found = Result (Option AddressEntry) Refusal

-- An entry.

-- the byte of a station type: 0 where no response was seen, else 1 + its number
unfoldable pub type_byte : LastType → ℕ
type_byte None = 0
type_byte (Some state) = 1 + response_number state

-- the station type that a byte says
unfoldable pub type_of : ℕ → LastType
type_of byte = cond (eqb byte 0) None (Some (response_state_of (byte - 1)))

-- the entry that bytes begin with: times heard 32 bits, first clock 48, last clock 48, station type 8. What is not there is 0
unfoldable pub entry_of : List ℕ → AddressEntry
entry_of s = record { first = load_of s 4 6; last = load_of s 10 6; times = load_of s 0 4; last_type = type_of (load_of s 16 1) }

-- the entry of an address that was never heard
unfoldable pub no_entry : AddressEntry
no_entry = record { first = 0; last = 0; times = 0; last_type = None }

-- the 17 bytes of an entry
abbrev pub entry_bytes : AddressEntry → List ℕ
entry_bytes e = low_bytes 4 e.times ++ (low_bytes 6 e.first ++ (low_bytes 6 e.last ++ low_bytes 1 (type_byte e.last_type)))

-- s with an entry written into its first 17 bytes; as it is where it has fewer
unfoldable pub entry_into : List ℕ → AddressEntry → List ℕ
entry_into s e = cond (ltb (length s) entry_length) s (entry_bytes e ++ drop entry_length s)

-- One telegram heard.

-- times heard, one more, stopping at the largest
unfoldable pub one_more : ℕ → ℕ
one_more times = cond (eqb times most_times) times (times + 1)

-- the first clock: the one of now where nothing was heard before
unfoldable pub first_clock : ℕ → ℕ → ℕ → ℕ
first_clock times first clock = cond (eqb times 0) clock first

-- the last station type: that of a response, and where none was seen the one before
unfoldable pub newer_type : LastType → LastType → LastType
newer_type before None = before
newer_type before (Some state) = Some state

-- an entry after a telegram of its address
unfoldable pub entry_after : AddressEntry → ℕ → LastType → AddressEntry
entry_after e clock seen =
    record { first = first_clock e.times e.first clock; last = clock; times = one_more e.times; last_type = newer_type e.last_type seen }

-- where the entry of an address stands in a table
abbrev pub entry_place : ℕ → ℕ
entry_place address = entry_length * address

-- a table after a telegram of a source; those of 126 and 127 are skipped
unfoldable pub heard_from : List ℕ → ℕ → ℕ → LastType → List ℕ
heard_from table clock source seen =
    cond (ltb last_address source) table
    (take (entry_place source) table ++ entry_into (drop (entry_place source) table) (entry_after (entry_of (drop (entry_place source) table)) clock seen))

-- a table after a telegram that was consumed at a clock; short confirmations are skipped
unfoldable pub hear_of : List ℕ → ℕ → Telegram → List ℕ
hear_of table clock (Token destination source) = heard_from table clock source None
hear_of table clock ShortConfirmation = table
hear_of table clock (Request destination source request) = heard_from table clock source None
hear_of table clock (Response destination source state status) = heard_from table clock source (Some state)

-- Telegrams heard, one after the other.

-- a telegram and the clock that it was consumed at
pub record Hearing : Type 0 where
  pub clock : ℕ
  pub telegram : Telegram

-- a table after all of them
unfoldable pub hear_all : List ℕ → List Hearing → List ℕ
hear_all table [] = table
hear_all table (h ∷ hs) = hear_all (hear_of table h.clock h.telegram) hs

-- the telegrams of a poll record for n applications that are consumed: as many as its answer says, from the first, at its clock
unfoldable pub consumed_in : List ℕ → ℕ → ℕ → List Hearing
consumed_in s n zero = []
consumed_in s n (suc k) = consumed_in s n k ++ (record { clock = (head_of s).clock; telegram = telegram_at s n k } ∷ [])

-- What is asked.

-- what an entry says: one that was heard no time was never heard
unfoldable pub lookup_on : AddressEntry → Option AddressEntry
lookup_on e = cond (eqb e.times 0) None (Some e)

-- what a table says of an address: one whose entry has no room there was never heard
unfoldable pub lookup_of : List ℕ → ℕ → Found
lookup_of table address =
    answered (heard_refusal address)
    (cond (ltb (length table) (entry_place address + entry_length)) None (lookup_on (entry_of (drop (entry_place address) table))))

-- the number of an answer: 0 where nothing was refused
unfoldable pub lookup_number : Found → ℕ
lookup_number (Ok found) = 0
lookup_number (Err refusal) = number_of refusal

-- the entry that is shown of an answer: zeros for an address that was never heard
abbrev pub shown_of : Found → AddressEntry
shown_of (Ok (Some e)) = e
shown_of (Ok None) = no_entry
shown_of (Err refusal) = no_entry

-- what the summary returns with room bytes to show it in: the answer's number, then 18 where an entry has no room
unfoldable pub summary_number : Found → ℕ → ℕ
summary_number found room = cond (eqb (lookup_number found) 0) (cond (ltb room entry_length) 18 0) (lookup_number found)

-- what it leaves there: the entry's 17 bytes and what was behind them; a refused one leaves all as it is
unfoldable pub summary_into : Found → List ℕ → List ℕ
summary_into found before = cond (eqb (summary_number found (length before)) 0) (entry_into before (shown_of found)) before
