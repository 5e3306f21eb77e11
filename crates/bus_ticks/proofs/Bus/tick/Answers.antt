use Rattle.std.proofs.Common.{◌≡◌, refl, arith}
use Rattle.bus_ticks.specs.Ticks.{ticking_first, ticking_next, ticking_last, picked_short, place_short}
use Rattle.bus_ticks.proofs.Bus.tick.Goals as goal

pub loop-i-init : goal.loop-i-init
loop-i-init c =
    (omega arith, refl, λ tick b some g. ticking_first tick _ b _ _ _ _ _ _ some g c.cleared-self.ensures refl)

pub loop-i-preserved : goal.loop-i-preserved
loop-i-preserved c =
    let inv = c.loop-i.invariant in
    let placed = c.take_place-place in
    let lengths = picked_short _ _ _ _ (inv.0, inv.1) (place_short _ _ _ _ _ _ _ _ placed.ensures) in (
      rw c.picked-given.ensures lengths.0,
      rw c.picked-given.ensures lengths.1,
      λ tick b some g. ticking_next g.wire (inv.2 tick b some g) (omega arith) c.requires.0 _ _ _ placed.result placed.ensures _ c.picked-given.ensures,
    )

pub returns : goal.returns
returns c =
    let inv = c.loop-i.invariant in
    let e : c.loop-i.i ≡ c.args.n = omega arith in
    record {
      short = inv.0;
      full = inv.1;
      is = λ tick b some g. ticking_last _ _ _ _ _ _ c.loop-i.self _ _ e (inv.2 tick b some g);
    }
