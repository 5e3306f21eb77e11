-- Request P7 in one statement: what the call on who was heard returns and leaves, for every trace that starts a station. Its proof is
-- `every_summary` in proofs/Theorem.antt. Bytes are numbers here, and any list of them is meant.
use Rattle.std.specs.Prelude.{ℕ, ◌+◌, ◌*◌, ◌≤◌, ◌≡◌, List, [], ◌∷◌, ◌++◌, ◌⊎◌, length, take, drop}
use Rattle.codec_answers.specs.declared.Answer.{Answer}
use Rattle.station.specs.declared.station.Station.{Station}
use Rattle.heard.specs.Heard.{last_address, entry_length, entry_bytes, Hearing, consumed_in, shown_of}
use Rattle.heard.specs.Afresh.{afresh_of}
use Rattle.trace_headers.specs.Headers.{header_length, header_of}
use Rattle.trace.specs.Trace.{Accepted, start_of}
use Rattle.trace_heard.specs.TraceHeard.{heard_number, heard_into}
use Rattle.theorem_every_trace.specs.Statement.{Entry, Whole, laid, along, Cut}

-- the telegrams that entries consumed, for n applications: of each entry's record as many as its answer says, in their order. It sees
-- the records and the answers, and no station
abbrev pub consumed_by : ℕ → List Entry → List Answer → List Hearing
consumed_by n [] answers = []
consumed_by n (e ∷ es) [] = []
consumed_by n (e ∷ es) (a ∷ answers) = consumed_in e.bytes n a.consumed ++ consumed_by n es answers

-- A trace whose header starts the station `fresh`, run over for an address with the lent slice `before`: the call returned `returned`
-- and left `left`.
pub record Summarized (fresh : Station) (trace : List ℕ) (address : ℕ) (before : List ℕ) (returned : ℕ) (left : List ℕ) : Type 0 where
  -- the entries that are answered, and the bytes that are left
  pub entries : List Entry
  pub rest : List ℕ
  -- the trace's bytes are the header's, those of the entries, each of them whole, and the rest
  pub whole : Whole entries
  pub bytes : trace ≡ take (header_length trace) trace ++ (laid entries ++ rest)
  -- the ending is 0 where no byte is left, and 17 where the trace ends inside an entry; no room for answers is asked for
  pub ending : ℕ
  pub stops : ((rest ≡ []) × (ending ≡ 0)) ⊎ (Cut rest × (ending ≡ 17))
  -- the call returns the entries answered × 256 + the ending
  pub number : returned ≡ length entries * 256 + ending
  -- the slice holds the entry worked out afresh from the records and from the answers that the station's definitions give, and then
  -- its old bytes
  pub shown :
      left
      ≡ entry_bytes (shown_of (afresh_of (consumed_by (header_of trace).applications entries (along fresh entries).answers) address)) ++ drop entry_length before

-- the theorem, over what the call's contract says that it returns and leaves, for an address to 125 and room for an entry
abbrev pub Theorem : Type 0
Theorem =
    (trace : List ℕ) (address : ℕ) (before : List ℕ) (fresh : Station)
    → start_of trace ≡ Accepted fresh
    → address ≤ last_address
    → entry_length ≤ length before
    → Summarized fresh trace address before (heard_number trace address (length before)) (heard_into trace address before)
