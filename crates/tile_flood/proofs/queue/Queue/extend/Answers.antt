use Rattle.tile_flood.proofs.Prelude.{HasBucket, IsExtended, Queue, SFits, ap, ap₂, arith, length, map, of_z, pos, rules, sym, to_z, w16, ◌++◌, ◌-ℤ◌, ◌∙◌, ◌≡◌}
use Rattle.std.proofs.lemmas.Int.{ints, to_z-of_z}
use Rattle.tile_flood.proofs.Buckets.{from_level, extended_as}
use Rattle.tile_flood.proofs.queue.Queue.extend.Goals as goal
use Rattle.tile_flood.proofs.queue.Queue.extend.Goals.{After-level_below-self-inside}

-- the buckets after the extension
module _ (c : After-level_below-self-inside) where
  abbrev now : Queue
  now = from_level (to_z w16 (of_z w16 c.level_below-self-inside.result)) (map (λ v. v.items) c.append-2.new.self.items)

  extended : IsExtended c.args.self.now now × HasBucket now c.args.level
  extended =
      let fits : SFits w16 c.level_below-self-inside.result = search rules in
      let fits_level : SFits w16 c.args.level = search rules in
      let fits_least : SFits w16 c.self.inside.least = search rules in
      let level_is = to_z-of_z w16 c.args.level fits_level in
      let least_is = to_z-of_z w16 c.self.inside.least fits_least in
      let pre = c.in_ok-buckets.ensures.count in
      let post = c.in_ok-rest.ensures.count in
      let long = c.len-count.ensures in
      let from : to_z w16 (of_z w16 c.self.inside.least) -ℤ pos c.count_below-below.result ≡ c.self.inside.least -ℤ pos (length c.in_ok-buckets.buckets.items) = ap₂ (λ l k. l -ℤ pos k) least_is (sym pre) in
      let low = c.count_below-below.ensures.reached in
      extended_as (λ v. v.items) c.self.inside.least (to_z w16 (of_z w16 c.level_below-self-inside.result)) c.in_ok-buckets.buckets.items c.self.inside.buckets.items c.in_ok-rest.rest.items c.append-2.new.self.items c.args.self.now c.args.level
      c.self.view_is c.in_ok-buckets.ensures.empty c.in_ok-rest.ensures.empty (to_z-of_z w16 c.level_below-self-inside.result fits ∙ (c.level_below-self-inside.ensures ∙ from)) (c.in_ok-append-2.ensures.items ∙ ap (λ xs. xs ++ c.in_ok-rest.rest.items) c.in_ok-append.ensures.items)
      (omega (arith, ints)) (λ above. let reached = c.count_above-above.ensures.reached (omega (arith, ints)) in omega (arith, ints))

pub returns-clause-extended : goal.returns-clause-extended
returns-clause-extended c = (extended (goal.at.returns-clause-extended c).After-level_below-self-inside).0

pub returns-clause-bucket : goal.returns-clause-bucket
returns-clause-bucket c = (extended (goal.at.returns-clause-bucket c).After-level_below-self-inside).1
