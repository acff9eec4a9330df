use mathlib.Core.Path.{◌≡◌, refl, sym, ap}
use Prim.Native.Nat.{ℕ, ◌+◌}
use native.Mathlib.Omega.{arith}
use lib.ListN.{length, take}
use lib.Seq.{length-take-le}
use Rattle.table.proofs.Laws.{body-law, whole-reaches}
use borrow.Author.Rules.{rules}
use Rattle.table.proofs.body_ok.Goals as goal

pub slice_bounds-gs-end : goal.slice_bounds-gs-end
slice_bounds-gs-end c = let three : length c.args.h.settings.groups ≡ 3 = search rules in omega (arith, three, c.requires.most)

pub slice_bounds-slots_ok-end : goal.slice_bounds-slots_ok-end
slice_bounds-slots_ok-end c = let three : length c.args.h.settings.groups ≡ 3 = search rules in let listed-are : length (take c.args.h.settings.count c.args.h.settings.groups) ≡ c.args.h.settings.count = length-take-le c.args.h.settings.count c.args.h.settings.groups (omega (arith, three, c.requires.most)) in sym listed-are

pub slots_ok-slots-requires : goal.slots_ok-slots-requires
slots_ok-slots-requires c = let three : length c.args.h.settings.groups ≡ 3 = search rules in let listed-are : length (take c.args.h.settings.count c.args.h.settings.groups) ≡ c.args.h.settings.count = length-take-le c.args.h.settings.count c.args.h.settings.groups (omega (arith, three, c.requires.most)) in (whole-reaches _ c.args.h _ _ c.requires c.width_of-w.ensures.0 c.width_of-w.ensures.1, (omega (arith, listed-are, c.requires.some), omega (arith, listed-are, c.requires.most)))

pub addresses_ok-addresses-requires : goal.addresses_ok-addresses-requires
addresses_ok-addresses-requires c = (whole-reaches _ c.args.h _ _ c.requires c.width_of-w.ensures.0 c.width_of-w.ensures.1, (c.requires.few, c.requires.slots))

pub counts_ok-counts-requires : goal.counts_ok-counts-requires
counts_ok-counts-requires c = (whole-reaches _ c.args.h _ _ c.requires c.width_of-w.ensures.0 c.width_of-w.ensures.1, (c.requires.few, (c.requires.header, c.requires.slots)))

pub returns : goal.returns
returns c = body-law c.args.t.now _ _ c.args.h c.args.n _ _ _ _ c.requires refl refl (ap (λ (x : ℕ). x + 1) c.limit_of-high.ensures) c.slots_ok-slots.ensures c.addresses_ok-addresses.ensures c.counts_ok-counts.ensures
