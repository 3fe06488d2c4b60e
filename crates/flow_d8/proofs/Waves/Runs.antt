-- Members that are added to a flat, run by run.
use Rattle.std.proofs.Common.{rules}
use Rattle.flow_d8.proofs.Prelude.{Connects, Dir, East, Flow, IsOfFlat, List, North, NorthEast, NorthWest, SampleRun, South, SouthEast, SouthWest, Unknown, West, ℕ, [], ap, arith, cases_eq, cases_lt, get_or, get_or-append-add, get_or_append_left, get_or_default, get_or_past, inl, inr, is_deep, length, length-append, order_of, place_by, refl, slice_index_or, subst, suc, sym, true, zero, ⊎_elim, ◌%◌, ◌*◌, ◌++◌, ◌+◌, ◌-◌, ◌<◌, ◌∙◌, ◌∷◌, ◌≡◌, ◌≤◌, ◌⊎◌}
use Rattle.flow_d8.specs.Marks.{mark_at, IsMember, IsIn, no_run, Covers, IsRow, IsRunMarked, AreRows, AreListed, IsSettled}
use Rattle.flow_d8.specs.Members.{AreFoundIn, IsSettledBeside, Grows}
use Rattle.flow_d8.specs.declared.collecting.Members.{Members}
use Rattle.flow_d8.specs.declared.tile_flows.TileFlows.{TileFlows}
use Rattle.flow_d8.specs.Tiles.{Tiles, AreTiles, count_of, by_of, IsFirst}
use Rattle.flow_d8.proofs.Samples.DeepSteps.{deep_number, deep_by, deep_inner_at}
use Rattle.flow_d8.proofs.Sayings.Said.{is_known}
use Rattle.flow_d8.proofs.Waves.Starting.{member_small}

pub in_or_not : (r : SampleRun) (k : ℕ) → IsIn r k ⊎ (IsIn r k → ⊥)
in_or_not r k = search rules

-- a list with one more run
module _ (old new : List SampleRun) (r : SampleRun) (is : new ≡ old ++ r ∷ []) where
  pub one_more : length new ≡ length old + 1
  one_more = ap length is ∙ length-append old (r ∷ [])

  before : (i : ℕ) → i < length old → get_or new i no_run ≡ get_or old i no_run
  before i small = ap (λ l. get_or l i no_run) is ∙ get_or_append_left old (r ∷ []) no_run i small

  last : get_or new (length old) no_run ≡ r
  last = ap (λ l. get_or l (length old) no_run) is ∙ ap (λ i. get_or (old ++ (r ∷ [])) i no_run) (no_more (length old)) ∙ get_or-append-add old (r ∷ []) 0 no_run
    where
      no_more : (n : ℕ) → n ≡ n + 0
      no_more n = omega arith

  pub covers_still : (k : ℕ) → Covers old k → Covers new k
  covers_still k at = (at.0, (omega (arith, at.1.0, one_more), subst (λ (q : SampleRun). IsIn q k) (sym (before at.0 at.1.0)) at.1.1))

  pub covers_last : (k : ℕ) → IsIn r k → Covers new k
  covers_last k in_it = (length old, (omega (arith, one_more), subst (λ (q : SampleRun). IsIn q k) (sym last) in_it))

  pub covers_either : (k : ℕ) → Covers new k → Covers old k ⊎ IsIn r k
  covers_either k at = elim (cases_eq at.0 (length old)) [
    | inl same ↦ inr (subst (λ (q : SampleRun). IsIn q k) (ap (λ i. get_or new i no_run) same ∙ last) at.1.1)
    | inr other ↦ let small : at.0 < length old = omega (arith, at.1.0, one_more) in inl (at.0, (small, subst (λ (q : SampleRun). IsIn q k) (before at.0 small) at.1.1))
  ]

  pub rows_still : (n : ℕ) → AreRows n old → IsRow n r → AreRows n new
  rows_still n was row i small = elim (cases_eq i (length old)) [
    | inl same ↦ subst (IsRow n) (sym (ap (λ j. get_or new j no_run) same ∙ last)) row
    | inr other ↦ let small_before : i < length old = omega (arith, small, one_more) in subst (IsRow n) (sym (before i small_before)) (was i small_before)
  ]

-- the runs still have all members
pub listed_within : (marks new : List ℕ) (runs : List SampleRun) → AreListed marks runs → length new ≡ length marks → ((k : ℕ) → mark_at marks k ≡ 3 → mark_at new k ≡ 3) → AreListed new runs
listed_within marks new runs is whole outside = record { listed = λ k member. is.listed k (λ out. member (outside k out)); small = λ k covers. omega (arith, whole, is.small k covers) }

-- a sample inside a flat has its place in the array
pub flat_small : (flows : List Flow) (k : ℕ) → IsOfFlat (slice_index_or flows k Unknown) → k < length flows
flat_small flows k flat = ⊎_elim (λ lt. lt) (λ ge. absurd (is_known (slice_index_or flows k Unknown) flat (get_or_past flows k Unknown ge))) (cases_lt k (length flows))

-- adding a run to the members found
module _ (t : TileFlows) (old new : Members) (r : SampleRun) (row : IsRow t.tiles.now.side r) (marked : IsRunMarked r 2 old.marks new.marks) (listed : new.runs.items ≡ old.runs.items ++ r ∷ [])
    (free : (k : ℕ) → IsIn r k → mark_at old.marks k ≡ 3) (flat : (k : ℕ) → IsIn r k → IsOfFlat (slice_index_or t.flows.now k Unknown)) (first : (k : ℕ) → IsIn r k → IsFirst t.tiles.now k) where
  pub member_in : (k : ℕ) → IsIn r k → IsMember new.marks k
  member_in k in_it out = absurd (omega (arith, out, marked.here k in_it))

  kept : (k : ℕ) → IsMember old.marks k → IsMember new.marks k
  kept k member out = ⊎_elim (λ in_it. member (free k in_it)) (λ apart. member (sym (marked.others k apart) ∙ out)) (in_or_not r k)

  was : (k : ℕ) → IsMember new.marks k → IsMember old.marks k ⊎ IsIn r k
  was k member = ⊎_elim (λ in_it. inr in_it) (λ apart. inl (λ out. member (marked.others k apart ∙ out))) (in_or_not r k)

  pub grows : AreFoundIn t old → new.seed ≡ old.seed → ((k : ℕ) → IsIn r k → (n : ℕ) × Connects t.flows.now (by_of t.tiles.now) old.seed n k) → Grows t old new
  grows is same joined = record {
    seed = same;
    found = record {
      whole = marked.whole ∙ is.whole;
      two = λ k member. ⊎_elim (λ in_it. marked.here k in_it)
          (λ apart. marked.others k apart ∙ is.two k (λ out. member (marked.others k apart ∙ out)))
          (in_or_not r k);
      flat = λ k member. ⊎_elim (is.flat k) (flat k) (was k member);
      first = λ k member. ⊎_elim (is.first k) (first k) (was k member);
      joined = λ k member. subst (λ s. (n : ℕ) × Connects t.flows.now (by_of t.tiles.now) s n k) (sym same) (⊎_elim (is.joined k) (joined k) (was k member));
      listed = λ k member. ⊎_elim (λ before. covers_still old.runs.items new.runs.items r listed k (is.listed k before)) (covers_last old.runs.items new.runs.items r listed k) (was k member);
      members = λ k covers. ⊎_elim (λ before. kept k (is.members k before)) (member_in k) (covers_either old.runs.items new.runs.items r listed k covers);
      rows = rows_still old.runs.items new.runs.items r listed t.tiles.now.side is.rows row;
    };
    kept = kept;
    runs = λ i small. (omega (arith, small, one_more old.runs.items new.runs.items r listed), before old.runs.items new.runs.items r listed i small);
    fewer = omega (arith, marked.fewer row.some (omega arith) free, one_more old.runs.items new.runs.items r listed);
  }

pub found_listed : (t : TileFlows) (m : Members) → AreFoundIn t m → AreListed m.marks m.runs.items
found_listed t m is = record { listed = is.listed; small = λ k covers. member_small m.marks k (is.members k covers) }

-- the i-th run of the members found
module _ (t : TileFlows) (m : Members) (is : AreFoundIn t m) (i : ℕ) (small : i < length m.runs.items) (r : SampleRun) (at : r ≡ slice_index_or m.runs.items i r) where
  pub run_at : r ≡ slice_index_or m.runs.items i no_run
  run_at = at ∙ get_or_default m.runs.items i r no_run small

  pub run_row : IsRow t.tiles.now.side r
  run_row = subst (IsRow t.tiles.now.side) (sym run_at) (is.rows i small)

  pub run_member : (k : ℕ) → IsIn r k → IsMember m.marks k
  run_member k in_it = is.members k (i, (small, subst (λ (q : SampleRun). IsIn q k) run_at in_it))

module _ (t : TileFlows) (a b : Members) (first : Grows t a b) where
  pub settled_on : (k : ℕ) (d : Dir) → IsSettledBeside t a k d → IsSettledBeside t b k d
  settled_on k d is = record { known = is.known; member = λ flat. first.kept (by_of t.tiles.now k d) (is.member flat) }

  pub grows_on : (c : Members) → Grows t b c → Grows t a c
  grows_on c then = record {
    seed = then.seed ∙ first.seed;
    found = then.found;
    kept = λ k is. then.kept k (first.kept k is);
    runs = λ i small. let there = first.runs i small in let on = then.runs i there.0 in (on.0, on.1 ∙ there.1);
    fewer = omega (arith, first.fewer, then.fewer);
  }

-- steps within a run of deep samples
module _ (t : Tiles) (valid : AreTiles t) (flows : List Flow) (r : SampleRun) (row : IsRow t.side r) (small : (k : ℕ) → IsIn r k → k < count_of t) (flat : (k : ℕ) → IsIn r k → IsOfFlat (slice_index_or flows k Unknown)) where
  abbrev Deep : ℕ → Type 0
  Deep k = is_deep t.side (k % (t.side * t.side)) ≡ true

  -- if a run has two samples, each of its samples is deep
  deep_if : (j k : ℕ) → IsIn r j → IsIn r k → j < k → (l : ℕ) → IsIn r l → Deep l
  deep_if j k in_j in_k less l in_l = ⊎_elim (λ one. absurd (omega (arith, one, in_j.from, in_k.to, less))) (λ deep. deep l in_l) row.deep

  pub same_if : (k to : ℕ) → r.last ≡ r.first → IsIn r k → IsIn r to → k ≡ to
  same_if k to one in_k in_to = omega (arith, one, in_k.from, in_k.to, in_to.from, in_to.to)

  pub row_first : (to : ℕ) → IsIn r to → IsFirst t to → (k : ℕ) → IsIn r k → IsFirst t k
  row_first to in_to first k in_k = ⊎_elim (λ one. subst (IsFirst t) (sym (same_if k to one in_k in_to)) first) (λ deep. deep_number t valid k (small k in_k) (deep k in_k)) row.deep

  module _ (seed to : ℕ) (in_to : IsIn r to) (from : (n : ℕ) × Connects flows (by_of t) seed n to) where
    abbrev Joined : ℕ → Type 0
    Joined k = (n : ℕ) × Connects flows (by_of t) seed n k

    step_joined : (j k : ℕ) (d : Dir) → IsIn r j → Deep j → place_by t.side j d ≡ k → Joined j → Joined k
    step_joined j k d in_j deep there joined = (suc joined.0, (j, d, (joined.1, (flat j in_j, deep_by t valid j (small j in_j) deep d ∙ there))))

    east : (j k : ℕ) → k ≡ to + j → IsIn r k → Joined k
    east zero k at in_k = subst Joined (omega arith) from
    east (suc j) k at in_k =
        let in_j : IsIn r (to + j) = record { from = omega (arith, in_to.from); to = omega (arith, at, in_k.to) } in
        step_joined (to + j) k East in_j (deep_if (to + j) k in_j in_k (omega (arith, at)) (to + j) in_j) (omega (arith, at)) (east j (to + j) refl in_j)

    west : (j k : ℕ) → k + j ≡ to → IsIn r k → Joined k
    west zero k at in_k = subst Joined (omega arith) from
    west (suc j) k at in_k =
        let in_j : IsIn r (k + 1) = record { from = omega (arith, in_k.from); to = omega (arith, at, in_to.to) } in
        step_joined (k + 1) k West in_j (deep_if k (k + 1) in_k in_j (omega arith) (k + 1) in_j) (omega arith) (west j (k + 1) (omega (arith, at)) in_j)

    pub row_joined : (k : ℕ) → IsIn r k → Joined k
    row_joined k in_k = ⊎_elim (λ less. west (to - k) k (omega (arith, less)) in_k) (λ more. east (k - to) k (omega (arith, more)) in_k) (cases_lt k to)

  -- each neighbour of a sample, except the eastern ones, is the sample before or one of that sample's neighbours
  pub next_settled : (marks : List ℕ) (k : ℕ) → IsIn r k → IsIn r (k + 1) → IsMember marks k → ((d : Dir) → IsSettled flows marks (by_of t k d)) → (d : Dir) → 2 ≤ order_of d → order_of d < 7 → IsSettled flows marks (by_of t (k + 1) d)
  next_settled marks k in_k in_next member settled = by
    where
      deep_k : Deep k
      deep_k = deep_if k (k + 1) in_k in_next (omega arith) k in_k

      deep_next : Deep (k + 1)
      deep_next = deep_if k (k + 1) in_k in_next (omega arith) (k + 1) in_next

      room : t.side + 1 ≤ k
      room = (deep_inner_at t valid k (small k in_k) deep_k).before

      same : (e d : Dir) → place_by t.side k e ≡ place_by t.side (k + 1) d → IsSettled flows marks (by_of t (k + 1) d)
      same e d at = subst (IsSettled flows marks) (deep_by t valid k (small k in_k) deep_k e ∙ at ∙ sym (deep_by t valid (k + 1) (small (k + 1) in_next) deep_next d)) (settled e)

      by : (d : Dir) → 2 ≤ order_of d → order_of d < 7 → IsSettled flows marks (by_of t (k + 1) d)
      by East low high = absurd (omega arith)
      by SouthEast low high = absurd (omega arith)
      by South low high = same SouthEast South (omega arith)
      by SouthWest low high = same South SouthWest (omega arith)
      by West low high = subst (IsSettled flows marks) (sym (deep_by t valid (k + 1) (small (k + 1) in_next) deep_next West ∙ back)) (record { known = is_known (slice_index_or flows k Unknown) (flat k in_k); member = λ is. member })
        where
          back : place_by t.side (k + 1) West ≡ k
          back = omega arith
      by NorthWest low high = same North NorthWest (omega (arith, room))
      by North low high = same NorthEast North (omega (arith, room))
      by NorthEast low high = absurd (omega arith)
