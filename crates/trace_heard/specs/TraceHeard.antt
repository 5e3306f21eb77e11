-- Who was heard in a trace (request P7), worked out from the trace's records and the answers of its replay alone: the clock and the
-- telegrams from a record, how many of them are consumed from its answer. Assumes nothing.
use Rattle.std.specs.Prelude.{ℕ, List, [], ◌∷◌, ◌++◌, cond, take, drop, eqb}
use Rattle.codec_answers.specs.declared.Answer.{Answer}
use Rattle.heard.specs.Heard.{Found, entry_length, heard_refusal, Hearing, consumed_in, summary_into}
use Rattle.heard.specs.Afresh.{afresh_of}
use Rattle.trace_headers.specs.Headers.{header_length, header_of}
use Rattle.trace.specs.Entries.{record_length}
use Rattle.trace.specs.Trace.{TraceStart, Accepted, Refused, start_of, whole_replay, whole_number}

-- the telegrams that entries consumed, for n applications: of each entry's record as many as its answer says, in their order
unfoldable pub consumed_over : ℕ → List ℕ → List Answer → List Hearing
consumed_over n entries [] = []
consumed_over n [] (a ∷ answers) = []
consumed_over n (kind ∷ rest) (a ∷ answers) =
    consumed_in (take (record_length kind) rest) n a.consumed ++ consumed_over n (drop (record_length kind) rest) answers

-- the telegrams heard in a trace: those that its entries consumed, by the answers of its whole replay
unfoldable pub heard_in : List ℕ → List Hearing
heard_in trace = consumed_over (header_of trace).applications (drop (header_length trace) trace) (whole_replay trace).answers

-- what is said of an address after a trace
unfoldable pub found_after : List ℕ → ℕ → Found
found_after trace address = afresh_of (heard_in trace) address

-- what the call returns with room bytes for an entry: 26 for an address above 125; then a refused header's number, 18 where there is
-- no room, else the entries × 256 + the ending number
unfoldable pub heard_number : List ℕ → ℕ → ℕ → ℕ
heard_number trace address room = cond (eqb (heard_refusal address) 0) (whole_number trace entry_length room) (heard_refusal address)

-- what it leaves in the lent slice: the summary of what is said of the address; a refused header leaves all as it is
unfoldable pub heard_into_on : TraceStart → List ℕ → ℕ → List ℕ → List ℕ
heard_into_on (Accepted s) trace address before = summary_into (found_after trace address) before
heard_into_on (Refused n) trace address before = before

unfoldable pub heard_into : List ℕ → ℕ → List ℕ → List ℕ
heard_into trace address before = heard_into_on (start_of trace) trace address before
