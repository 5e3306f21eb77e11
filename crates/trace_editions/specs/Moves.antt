-- Each accepted header moves to the other edition and back to the same bytes, and the two say the same. The fields are carried by the
-- law over lists of widths (codec_slices); here stand the ranges of the rules, which leave each field room in its width.
use Rattle.std.specs.Prelude.{ℕ, ◌+◌, ◌-◌, ◌^◌, ◌<◌, ◌≤◌, ◌≡◌, refl, length, eqb, leb}
use Rattle.std.proofs.Common.{sym, ◌∙◌, subst, le_refl, arith, eqb-true, ne_eqb, le-ltb, leb-true, leb-false, take_all, lit<}
use Rattle.std.proofs.Math.Path.{ap}
use mathlib.Core.List.{List, [], ◌∷◌}
use borrow.Table.Steps.{cases}
use Rattle.std.proofs.Math.ListN.{get_or}
use Rattle.bit_times.specs.Times.{baud_of}
use Rattle.bit_times.proofs.Laws.{baud_unknown}
use Rattle.codec_fields.specs.Fields.{field_of, zero_or14, zeros_or14, be, pack, unpack, Within, low_bytes, Bytes}
use Rattle.codec_fields.proofs.Laws.{unpack_pack, unpacked_within, low_be, never, zero_fields}
use Rattle.codec_slices.proofs.Round.{read_written, written_read}
use Rattle.settings_rules.specs.Rules.{address_refusal, baud_refusal, hsa_refusal, rotation_refusal, gap_wait_refusal, retry_refusal, factors_refusal, applications_refusal}
use Rattle.settings_rules.proofs.Laws.{outside_in, none_refuses}
use Rattle.settings_build.specs.Build.{early_refusal, first_refusal}
use Rattle.settings_build.proofs.Passes.{passes}
use Rattle.trace_headers.specs.declared.Header.{Header}
use Rattle.trace_headers.specs.declared.Edition.{Edition}
use Rattle.trace_headers.specs.declared.Edition.TheVariants.{First, Second}
use Rattle.trace_headers.specs.Headers.{second_mark, edition_of, widths_of, length_of, header_length, header_in, header_of, header_refusal}
use Rattle.trace_headers.specs.Laws.{made_in, widths_fill}
use Rattle.trace_headers_written.specs.HeaderBytes.{values_in, header_bytes}
use Rattle.trace_headers_written.specs.Laws.{header_bytes_length, written_bytes}
use Rattle.trace_editions.specs.Editions.{other_than}

-- What is said.

-- the bytes of an accepted header, in either edition, and nothing behind them
pub record AcceptedHeader (bytes : List ℕ) : Type 0 where
  pub are_bytes : Bytes bytes
  pub whole : length bytes ≡ header_length bytes
  pub accepted : header_refusal (header_of bytes) ≡ 0

-- a header's bytes in the other edition
abbrev pub moved : List ℕ → List ℕ
moved bytes = header_bytes (other_than (edition_of bytes)) (header_of bytes)

-- moved, an accepted header is one of the other edition, says the same, is accepted, and moves back to the same bytes
pub record Moves (bytes : List ℕ) : Type 0 where
  pub to_the_other : edition_of (moved bytes) ≡ other_than (edition_of bytes)
  pub says_the_same : header_of (moved bytes) ≡ header_of bytes
  pub is_accepted : AcceptedHeader (moved bytes)
  pub back : moved (moved bytes) ≡ bytes

-- Its proof.

-- a header whose values each edition has room for, and which cannot be taken for the other edition
pub record Narrow (h : Header) : Type 0 where
  pub low_address : h.settings.address ≤ 125
  pub some : 1 ≤ h.applications
  pub fits : (e : Edition) → Within (widths_of e) (values_in e h)

-- with another number of applications
abbrev serving : Header → ℕ → Header
serving h n = record { settings = h.settings; applications = n; zero_bits = h.zero_bits }

-- values say the header that has them
made_values : (e : Edition) (h : Header) → 1 ≤ h.applications → made_in e (values_in e h) ≡ h
unfolding made_in
made_values First h some = refl
made_values Second h some = let e : h.applications - 1 + 1 ≡ h.applications = omega (arith, some) in ap (serving h) e

-- the header that bytes say, by its values
in_made : (e : Edition) (bytes : List ℕ) → header_in e bytes ≡ made_in e (unpack (widths_of e) (be bytes))
unfolding header_in made_in
in_made First bytes = refl
in_made Second bytes = refl

-- an address begins edition 1, 82h edition 2
is_first : (s : List ℕ) → get_or s 0 0 ≤ 125 → edition_of s ≡ First
unfolding edition_of
is_first s l = let e : eqb (get_or s 0 0) second_mark ≡ _ = ne_eqb (get_or s 0 0) second_mark (λ z. omega (arith, l, z)) in rw e

is_second : (s : List ℕ) → get_or s 0 0 ≡ second_mark → edition_of s ≡ Second
unfolding edition_of
is_second s e = rw e

begins_second : (s : List ℕ) → edition_of s ≡ Second → get_or s 0 0 ≡ second_mark
unfolding edition_of
begins_second s e = cases (eqb (get_or s 0 0) second_mark) (λ t. eqb-true _ _ t) (λ t. not_second (rw t at e))
  where
    not_second : First ≡ Second → get_or s 0 0 ≡ second_mark
    not_second z = let y : ◌≡◌ {A = ℕ} 0 1 = cc in absurd (omega arith)

-- the header of bytes that are one
header_whole : (e : Edition) (bytes : List ℕ) → edition_of bytes ≡ e → length bytes ≡ length_of e → header_of bytes ≡ header_in e bytes
unfolding header_of
header_whole e bytes is l =
    let room : length_of e ≤ length bytes = rw l (le_refl (length_of e)) in
    let fits : length bytes ≤ length_of e = rw l (le_refl (length_of e)) in
    rw (is, le-ltb (length bytes) (length_of e) room) (ap (header_in e) (take_all (length_of e) bytes fits))

module _ (h : Header) (narrow : Narrow h) where
  -- what an edition writes it reads
  read_back : (e : Edition) → header_in e (header_bytes e h) ≡ h
  unfolding header_bytes
  read_back e =
      in_made e (header_bytes e h)
      ∙ ap (made_in e) (read_written (widths_of e) (length_of e) (widths_fill e) (values_in e h) (narrow.fits e))
      ∙ made_values e h narrow.some

  -- and its edition is told by the first byte
  edition_back : (e : Edition) → edition_of (header_bytes e h) ≡ e
  unfolding header_bytes length_of
  edition_back First =
      let is : get_or (header_bytes First h) 0 0 ≡ h.settings.address = ap (λ (vs : List ℕ). get_or vs 0 0) (unpack_pack 0 (widths_of First) (values_in First h) (narrow.fits First)) in
      is_first (header_bytes First h) (rw is narrow.low_address)
  edition_back Second =
      is_second (header_bytes Second h) (ap (λ (vs : List ℕ). get_or vs 0 0) (unpack_pack 0 (widths_of Second) (values_in Second h) (narrow.fits Second)))

  header_back : (e : Edition) → header_of (header_bytes e h) ≡ h
  header_back e = header_whole e (header_bytes e h) (edition_back e) (header_bytes_length e h) ∙ read_back e

-- a list without its first
abbrev rest : List ℕ → List ℕ
rest [] = []
rest (x ∷ xs) = xs

less : (n : ℕ) → n + 1 - 1 ≡ n
less n = omega arith

-- bytes are what an edition writes of what it reads
write_back : (e : Edition) (bytes : List ℕ) → Bytes bytes → edition_of bytes ≡ e → length bytes ≡ length_of e → header_bytes e (header_in e bytes) ≡ bytes
unfolding header_bytes header_in length_of
write_back First bytes are is l = written_read (widths_of First) 16 refl bytes l are
write_back Second bytes are is l =
    let n = be bytes in
    let same : low_bytes 14 n ≡ bytes = subst (λ (k : ℕ). low_bytes k n ≡ bytes) l (low_be bytes are) in
    let mark : field_of n 104 8 ≡ second_mark = ap (λ (s : List ℕ). get_or s 0 0) same ∙ begins_second bytes is in
    ap (λ (vs : List ℕ). low_bytes 14 (pack (widths_of Second) vs))
    (ap (λ (x : ℕ). x ∷ rest (values_in Second (header_in Second bytes))) (sym mark)
    ∙ ap (λ (x : ℕ). field_of n 104 8 ∷ values_in First (serving (header_in Second bytes) x)) (less (field_of n 23 3)))
    ∙ written_read (widths_of Second) 14 refl bytes l are

-- a baud code with a rate
baud_known : (n : ℕ) → baud_refusal (baud_of n) ≡ 0 → n ≤ 10
unfolding baud_refusal
baud_known n e =
    cases (leb n 10) (λ t. leb-true n 10 t) (λ t. never 9 (rw (baud_unknown n (omega (arith, leb-false n 10 t))) at e))

-- the rules' ranges
pub record Ranges (h : Header) : Type 0 where
  pub address : h.settings.address ≤ 125
  pub baud : h.settings.baud_code ≤ 10
  pub rotation : h.settings.token_rotation_bits ≤ 16777960
  pub gap : h.settings.gap_wait_rotations ≤ 100
  pub hsa : h.settings.highest_station_address ≤ 126
  pub retry : h.settings.max_retry_limit ≤ 15
  pub applications : (1 ≤ h.applications) × (h.applications ≤ 8)
  pub spare : h.zero_bits ≡ 0

ranges : (h : Header) → header_refusal h ≡ 0 → Ranges h
unfolding header_refusal first_refusal address_refusal hsa_refusal rotation_refusal gap_wait_refusal retry_refusal applications_refusal zeros_or14
ranges h e =
    let f = h.settings in
    let late = factors_refusal f.factor_1 f.factor_2 in
    let zero_bits : List ℕ = zero_or14 h.zero_bits ∷ [] in
    let early = none_refuses (early_refusal f) (applications_refusal h.applications ∷ late ∷ zero_bits) e in
    let served = none_refuses (applications_refusal h.applications) (late ∷ zero_bits) early.1 in
    let factored = none_refuses late zero_bits served.1 in
    let last = none_refuses (zero_or14 h.zero_bits) [] factored.1 in
    let whole : first_refusal f ≡ 0 = rw (early.0, factored.0) in
    let p = passes f whole in
    record {
      address = (outside_in 0 f.address 125 1 (lit< tt) p.address).1;
      baud = baud_known f.baud_code p.baud;
      rotation = (outside_in 256 f.token_rotation_bits 16777960 4 (lit< tt) p.rotation).1;
      gap = (outside_in 1 f.gap_wait_rotations 100 5 (lit< tt) p.gap_wait).1;
      hsa = (outside_in (f.address + 1) f.highest_station_address 126 3 (lit< tt) p.hsa).1;
      retry = (outside_in 1 f.max_retry_limit 15 6 (lit< tt) p.retry).1;
      applications = outside_in 1 h.applications 8 11 (lit< tt) served.0;
      spare = ap (λ (vs : List ℕ). get_or vs 0 0) (zero_fields (h.zero_bits ∷ []) last.0);
    }

-- and so it does where the other numbers, which have no range, have room
narrow_of : (h : Header) → Ranges h → h.settings.slot_bits < 2 ^ 16 → h.settings.min_tsdr_bits < 2 ^ 8 → h.settings.factor_1 < 2 ^ 8 → h.settings.factor_2 < 2 ^ 8 → Narrow h
narrow_of h r s m a b = record { low_address = r.address; some = r.applications.0; fits = fit }
  where
    fit : (e : Edition) → Within (widths_of e) (values_in e h)
    fit First =
        (omega (arith, r.address), (omega (arith, r.baud), (s, (omega (arith, r.rotation), (omega (arith, r.gap), (omega (arith, r.hsa), (omega (arith, r.retry), (m, (omega (arith, r.applications.1), (a, (b, (omega (arith, r.spare), tt))))))))))))
    fit Second =
        (lit< tt, (omega (arith, r.address), (omega (arith, r.baud), (s, (omega (arith, r.rotation), (omega (arith, r.gap), (omega (arith, r.hsa), (omega (arith, r.retry), (m, (omega (arith, r.applications.1), (a, (b, (omega (arith, r.spare), tt)))))))))))))

-- an accepted header has room in both editions
read_narrow : (e : Edition) (bytes : List ℕ) → header_refusal (header_in e bytes) ≡ 0 → Narrow (header_in e bytes)
unfolding header_in
read_narrow First bytes e =
    let w = unpacked_within (widths_of First) (be bytes) in
    narrow_of (header_in First bytes) (ranges (header_in First bytes) e) w.1.1.0 w.1.1.1.1.1.1.1.0 w.1.1.1.1.1.1.1.1.1.0 w.1.1.1.1.1.1.1.1.1.1.0
read_narrow Second bytes e =
    let w = unpacked_within (widths_of Second) (be bytes) in
    narrow_of (header_in Second bytes) (ranges (header_in Second bytes) e) w.1.1.1.0 w.1.1.1.1.1.1.1.1.0 w.1.1.1.1.1.1.1.1.1.1.0 w.1.1.1.1.1.1.1.1.1.1.1.0

-- the other of the other is the edition itself
other_other : (e : Edition) → other_than (other_than e) ≡ e
unfolding other_than
other_other First = refl
other_other Second = refl

-- the theorem
pub header_moves : (bytes : List ℕ) → AcceptedHeader bytes → Moves bytes
header_moves bytes a =
    record {
      to_the_other = edition;
      says_the_same = same;
      is_accepted = record {
        are_bytes = written_bytes other h;
        whole = header_bytes_length other h ∙ sym (ap length_of edition);
        accepted = rw same a.accepted;
      };
      back =
          ap (λ (x : Header). header_bytes (other_than (edition_of (moved bytes))) x) same
          ∙ ap (λ (x : Edition). header_bytes (other_than x) h) edition
          ∙ ap (λ (x : Edition). header_bytes x h) (other_other e)
          ∙ ap (header_bytes e) is
          ∙ write_back e bytes a.are_bytes refl a.whole;
    }
  where
    e : Edition
    e = edition_of bytes

    other : Edition
    other = other_than e

    h : Header
    h = header_of bytes

    is : h ≡ header_in e bytes
    is = header_whole e bytes refl a.whole

    narrow : Narrow h
    narrow = subst Narrow (sym is) (read_narrow e bytes (subst (λ (x : Header). header_refusal x ≡ 0) is a.accepted))

    edition : edition_of (moved bytes) ≡ other
    edition = edition_back h narrow other

    same : header_of (moved bytes) ≡ h
    same = header_back h narrow other
