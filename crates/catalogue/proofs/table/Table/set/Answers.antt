use Rattle.catalogue.proofs.Prelude.{IsSample, Vec, ℤ, ap, arith, ints, slice_set, to_z-of_z}
use Rattle.std.specs.Vec.{with_item}
use mir.Syntax.{w16}
use mir.Val.{to_z, of_z}
use Rattle.catalogue.proofs.Entries.{index_within, set_is, set_valid, found_somewhere}
use Rattle.catalogue.proofs.table.Table.set.Goals as goal
use Rattle.catalogue.proofs.table.Table.set.Goals.{in-Some, in_default}

pub index_mut-requires : goal.index_mut-requires
index_mut-requires c = index_within _ _ _ c.self.inside.tiles.entries _ c.self.view_is c.self.invariant c.args.corner c.args.index c.args.sample c.in-Some.samples.now c.in-Some.samples.now c.in-Some.ensures.value c.requires.index

pub returns-clause-changed : goal.returns-clause-changed
returns-clause-changed c =
    elim c.match-get_mut.branch [
      | in-Some w ↦
          let samples : Vec ℤ = w.in-Some.samples.now in
          let written : Vec ℤ = with_item samples c.args.index (to_z w16 (of_z w16 c.args.sample)) in
          let items = ap (λ (s : ℤ). slice_set samples.items c.args.index s) (to_z-of_z w16 c.args.sample c.ranges.sample) in
          rw w.self-inside-is (
          set_is _ _ _ _ _ c.self.view_is c.self.invariant c.args.corner c.args.index c.args.sample samples written w.in-Some.ensures.value items (c.get_mut.follows.holds written).0)
      | in_default w ↦ absurd (found_somewhere _ _ _ c.self.inside.tiles.entries _ c.self.view_is c.self.invariant c.args.corner c.requires.present w.in_default.ensures.value)
    ]

pub returns-clause-valid : goal.returns-clause-valid
returns-clause-valid c =
    elim c.match-get_mut.branch [
      | in-Some w ↦
          let samples : Vec ℤ = w.in-Some.samples.now in
          let written : Vec ℤ = with_item samples c.args.index (to_z w16 (of_z w16 c.args.sample)) in
          let items = ap (λ (s : ℤ). slice_set samples.items c.args.index s) (to_z-of_z w16 c.args.sample c.ranges.sample) in
          let sample : IsSample c.args.sample = (omega (arith, ints, c.ranges.sample), omega (arith, ints, c.ranges.sample)) in
          rw w.self-inside-is (
          set_valid _ _ _ _ _ c.self.view_is c.self.invariant c.args.corner c.args.index c.args.sample samples written w.in-Some.ensures.value sample items (c.get_mut.follows.holds written).0)
      | in_default w ↦ absurd (found_somewhere _ _ _ c.self.inside.tiles.entries _ c.self.view_is c.self.invariant c.args.corner c.requires.present w.in_default.ensures.value)
    ]

pub invariant_of-self : goal.invariant_of-self
invariant_of-self c =
    elim c.match-get_mut.branch [
      | in-Some w ↦
          let samples : Vec ℤ = w.in-Some.samples.now in
          let written : Vec ℤ = with_item samples c.args.index (to_z w16 (of_z w16 c.args.sample)) in
          let items = ap (λ (s : ℤ). slice_set samples.items c.args.index s) (to_z-of_z w16 c.args.sample c.ranges.sample) in
          let sample : IsSample c.args.sample = (omega (arith, ints, c.ranges.sample), omega (arith, ints, c.ranges.sample)) in
          rw w.self-inside-is (
          set_valid _ _ _ _ _ c.self.view_is c.self.invariant c.args.corner c.args.index c.args.sample samples written w.in-Some.ensures.value sample items (c.get_mut.follows.holds written).0)
      | in_default w ↦ absurd (found_somewhere _ _ _ c.self.inside.tiles.entries _ c.self.view_is c.self.invariant c.args.corner c.requires.present w.in_default.ensures.value)
    ]
