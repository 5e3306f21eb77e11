-- Nothing clears what was heard, going offline neither: what follows only adds. Assumes nothing.
use Rattle.std.specs.Prelude.{ℕ, suc, ◌+◌, ◌≤◌, ◌≡◌, refl, List, [], ◌∷◌, ◌++◌, Option, None, Some, Ok, Err, length, ltb}
use Rattle.std.proofs.Common.{sym, ap, ◌∙◌, subst, append-nil, append_assoc, arith, suc-add, ltb-true, ltb-false, le-ltb, length-append}
use borrow.Table.Steps.{cases}
use Rattle.codec_fields.specs.Fields.{up_to}
use Rattle.station.specs.declared.station.Station.{Station}
use Rattle.station.specs.Steps.{done_of}
use Rattle.station_answer.specs.Answer.{step_answer, polled_of}
use Rattle.station_command.specs.Command.{connect_of, online_of, offline_of, passive_of}
use Rattle.heard.specs.declared.AddressEntry.{AddressEntry}
use Rattle.refusals.specs.Refusals.{answered}
use Rattle.heard.specs.Heard.{Found, last_address, most_times, heard_refusal, Hearing, consumed_in}
use Rattle.heard.specs.Afresh.{sent_by, of_address, found_in, afresh_of}
use Rattle.trace.specs.Entries.{entry_of}
use Rattle.theorem_every_trace.specs.Statement.{Entry, along}
use Rattle.theorem_heard.specs.Statement.{consumed_by}
use Rattle.theorem_heard.specs.Stays.{StillHeard}

-- those of an address among more telegrams
of_append : (a : ℕ) (hs more : List Hearing) → of_address a (hs ++ more) ≡ of_address a hs ++ of_address a more
unfolding of_address
of_append a [] more = refl
of_append a (h ∷ hs) more =
    cases (sent_by a h.telegram) (λ t. rw t (ap (λ (l : List Hearing). h ∷ l) (of_append a hs more))) (λ t. rw t (of_append a hs more))

-- a larger count, up to the largest
up_more : (m k : ℕ) → up_to most_times m ≤ up_to most_times (m + k)
up_more m k =
    cases (ltb most_times m)
    (λ s. cases (ltb most_times (m + k)) (λ t. rw (s, t) (omega arith)) (λ t. absurd (omega (arith, ltb-true most_times m s, ltb-false most_times (m + k) t))))
    (λ s. cases (ltb most_times (m + k)) (λ t. rw (s, t) (ltb-false most_times m s)) (λ t. rw (s, t) (omega arith)))

-- telegrams of an address, and more of it
found_more : (l more : List Hearing) (e : AddressEntry) → found_in l ≡ Some e → StillHeard e (Ok (found_in (l ++ more)))
unfolding found_in
found_more [] more e is = absurd (subst heard_at_all is tt)
  where
    heard_at_all : Option AddressEntry → Type 0
    heard_at_all None = Unit {0}
    heard_at_all (Some f) = ⊥
found_more (h ∷ hs) more e is =
    subst Still is (refl, rw (length-append hs more, ← suc-add (length hs) (length more)) (up_more (suc (length hs)) (length more)))
  where
    Still : Option AddressEntry → Type 0
    Still (Some f) = StillHeard f (Ok (found_in ((h ∷ hs) ++ more)))
    Still None = ⊥

-- what an answer says, where it is no refusal
abbrev said : Found → Option AddressEntry
said (Ok found) = found
said (Err refusal) = None

-- what was heard of an address stays, whatever is heard after it
pub heard_stays : (hs more : List Hearing) (address : ℕ) (e : AddressEntry) → address ≤ last_address → afresh_of hs address ≡ Ok (Some e) → StillHeard e (afresh_of (hs ++ more) address)
unfolding afresh_of heard_refusal answered
heard_stays hs more address e known is =
    rw (le-ltb last_address address known, of_append address hs more)
    (found_more (of_address address hs) (of_address address more) e (ap said (rw (le-ltb last_address address known) at is)))

-- a command consumes nothing, so it changes nothing of what was heard: online, offline, passive
pub command_unheard : (s : Station) (bytes : List ℕ) (n : ℕ) → (consumed_in bytes n (entry_of s 0 bytes).answer.consumed ≡ []) × (consumed_in bytes n (entry_of s 1 bytes).answer.consumed ≡ []) × (consumed_in bytes n (entry_of s 2 bytes).answer.consumed ≡ [])
unfolding entry_of online_of offline_of passive_of connect_of polled_of step_answer done_of consumed_in
command_unheard s bytes n = (refl, refl, refl)

-- what more entries consume comes after what was consumed
consumed_append :
    (n : ℕ) (s : Station) (es more : List Entry)
    → consumed_by n (es ++ more) (along s (es ++ more)).answers
    ≡ consumed_by n es (along s es).answers ++ consumed_by n more (along (along s es).station more).answers
consumed_append n s [] more = refl
consumed_append n s (e ∷ es) more =
    let answered = entry_of s e.kind e.bytes in
    let first = consumed_in e.bytes n answered.answer.consumed in
    ap (λ (l : List Hearing). first ++ l) (consumed_append n answered.station es more)
    ∙ sym (append_assoc first (consumed_by n es (along answered.station es).answers) (consumed_by n more (along (along answered.station es).station more).answers))

module _ (n : ℕ) (s : Station) (es : List Entry) where
  -- going offline by command leaves what was heard as it is
  pub offline_keeps :
      (offline : Entry)
      → offline.kind ≡ 1
      → consumed_by n (es ++ (offline ∷ [])) (along s (es ++ (offline ∷ []))).answers ≡ consumed_by n es (along s es).answers
  offline_keeps offline is =
      let before = (along s es).station in
      let none : consumed_in offline.bytes n (entry_of before offline.kind offline.bytes).answer.consumed ≡ [] = rw is (command_unheard before offline.bytes n).1 in
      consumed_append n s es (offline ∷ [])
      ∙ ap (λ (l : List Hearing). consumed_by n es (along s es).answers ++ (l ++ [])) none
      ∙ append-nil (consumed_by n es (along s es).answers)

  -- and whatever entries follow, offline by a collision among them: an address that was heard stays heard
  pub still_heard :
      (more : List Entry) (address : ℕ) (e : AddressEntry)
      → address ≤ last_address
      → afresh_of (consumed_by n es (along s es).answers) address ≡ Ok (Some e)
      → StillHeard e (afresh_of (consumed_by n (es ++ more) (along s (es ++ more)).answers) address)
  still_heard more address e known is =
      rw (consumed_append n s es more) (heard_stays (consumed_by n es (along s es).answers) (consumed_by n more (along (along s es).station more).answers) address e known is)
