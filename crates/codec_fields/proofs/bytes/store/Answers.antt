use Rattle.std.proofs.Common.{◌+◌, ◌≤◌, ◌≡◌, ◌∙◌, sym, length, arith}
use Rattle.std.proofs.Math.ListN.{length-set}
use Rattle.codec_fields.specs.Fields.{stored_of}
use Rattle.codec_fields.proofs.Stores.{room_of_lem, over_more, over_all}
use Rattle.codec_fields.proofs.bytes.store.Goals as goal

-- the byte written and what is left to write are what was left before
pub loop-i-preserved : goal.loop-i-preserved
loop-i-preserved c =
    let s = c.loop-i.s in
    let there = room_of_lem (length c.args.s.now) c.args.at c.args.count (sym c.has_room.ensures ∙ c.if-not-has_room.false) in
    let room : c.args.at + c.args.count ≤ length s = omega (arith, there.1, c.loop-i.invariant.0) in
    (simp length-set c.loop-i.invariant.0, rw c.field.ensures (over_more s c.args.at c.args.count c.args.word c.loop-i.i (omega arith) room ∙ c.loop-i.invariant.1))

-- nothing is left to write
pub returns : goal.returns
unfolding stored_of
returns c =
    let e : c.loop-i.i ≡ c.args.count = omega arith in
    rw (← c.has_room.ensures, c.if-not-has_room.false) (sym (over_all c.loop-i.s c.args.at c.args.count c.args.word) ∙ (rw e at c.loop-i.invariant.1))
