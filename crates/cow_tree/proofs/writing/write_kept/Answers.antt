use Rattle.cow_tree.proofs.Prelude.{Err, List, PlanePages, Refusal, Result, Some, WritesPages, ℕ, all_numbers, ap, ap₂, arith, ended_with, length, length-append, map, pages_of_bytes, subst, sym, times, times-append, ◌++◌, ◌<◌, ◌∙◌, ◌≡◌, ◌≤◌}
use Rattle.cow_tree.proofs.Listed.Counting.{at_times}
use Rattle.cow_tree.proofs.Writes.PageWrites.{HasWritten, then_written, refused_within}
use Rattle.cow_tree.proofs.Standing.{SameOn, All-front, All-back, map_same}
use Rattle.cow_tree.proofs.Steps.{on_ok_both}
use Rattle.cow_tree.proofs.writing.write_kept.Goals as goal

pub write_plane-requires-clause-low : goal.write_plane-requires-clause-low
write_plane-requires-clause-low g c = rw c.pages.ensures (All-front (λ p. 4 ≤ p) c.args.levels_at.now.pages c.args.labels_at.now.pages c.requires.low)

pub write_plane-requires-clause-high : goal.write_plane-requires-clause-high
write_plane-requires-clause-high g c = rw c.pages.ensures (All-front (λ p. p < g.D.Disk.size c.args.roots.now.disk) c.args.levels_at.now.pages c.args.labels_at.now.pages c.requires.high)

pub write_plane-requires-clause-distinct : goal.write_plane-requires-clause-distinct
write_plane-requires-clause-distinct g c p =
    let same = ap (times p) c.pages.ensures in
    omega (arith, same, c.requires.distinct p, times-append p c.args.levels_at.now.pages c.args.labels_at.now.pages)

pub write_plane-requires-2-clause-low : goal.write_plane-requires-2-clause-low
write_plane-requires-2-clause-low g c = rw c.pages-2.ensures (All-back (λ p. 4 ≤ p) c.args.levels_at.now.pages c.args.labels_at.now.pages c.requires.low)

pub write_plane-requires-2-clause-high : goal.write_plane-requires-2-clause-high
write_plane-requires-2-clause-high g c =
    rw (c.pages-2.ensures, c.in_ok-write_plane.ensures.writes.size) (All-back (λ p. p < g.D.Disk.size c.args.roots.now.disk) c.args.levels_at.now.pages c.args.labels_at.now.pages c.requires.high)

pub write_plane-requires-2-clause-distinct : goal.write_plane-requires-2-clause-distinct
write_plane-requires-2-clause-distinct g c p =
    let same = ap (times p) c.pages-2.ensures in
    omega (arith, same, c.requires.distinct p, times-append p c.args.levels_at.now.pages c.args.labels_at.now.pages)

pub returns-in_err-write_plane-clause-writes : goal.returns-in_err-write_plane-clause-writes
returns-in_err-write_plane-clause-writes g c =
    let l = c.args.levels_at.now in
    let m = c.args.labels_at.now in
    let why : Refusal = c.in_err-write_plane.field-0.0 in
    let ended : c.from_residual.result ≡ Err why = ended_with c.from_residual.result why c.from_residual.ensures.1 in
    subst (λ (r : Result (Unit {0}) Refusal). WritesPages g.D.Disk (l.pages ++ m.pages) c.args.roots.now c.write_plane.new.roots r) (sym ended)
    (refused_within g.D.Disk l.pages (l.pages ++ m.pages) c.args.roots.now c.write_plane.new.roots why (omega (arith, length-append l.pages m.pages)) (λ q. omega (arith, times-append q l.pages m.pages))
    (subst (λ (ps : List ℕ). WritesPages {T = Unit {0}} g.D.Disk ps c.args.roots.now c.write_plane.new.roots (Err why)) c.pages.ensures c.in_err-write_plane.ensures.writes))

pub returns-clause-writes : goal.returns-clause-writes
returns-clause-writes g c =
    let l = c.args.levels_at.now in
    let m = c.args.labels_at.now in
    then_written g.D.Disk c.args.roots.now c.write_plane.new.roots c.write_plane-2.new.roots l.pages m.pages c.write_plane-2.result
    (subst (λ (ps : List ℕ). HasWritten g.D.Disk ps c.args.roots.now c.write_plane.new.roots) c.pages.ensures c.in_ok-write_plane.ensures.writes)
    (subst (λ (ps : List ℕ). WritesPages g.D.Disk ps c.write_plane.new.roots c.write_plane-2.new.roots c.write_plane-2.result) c.pages-2.ensures c.write_plane-2.ensures.writes)

pub returns-clause-written : goal.returns-clause-written
returns-clause-written g c honest n levels labels =
    let d = g.D.Disk in
    let l = c.args.levels_at.now in
    let m = c.args.labels_at.now in
    let a = d.seen c.write_plane.new.roots.disk in
    let b = d.seen c.write_plane-2.new.roots.disk in
    let second = c.write_plane-2.ensures in
    on_ok_both c.write_plane-2.result
    (λ others wrote.
    let stays : SameOn l.pages a b =
    all_numbers (λ q. a q ≡ b q) l.pages (λ q some.
    let same = ap (times q) c.pages-2.ensures in
    others q (at_times (λ p. 4 ≤ p) q l.pages (All-front (λ p. 4 ≤ p) l.pages m.pages c.requires.low) some) (omega (arith, some, same, c.requires.distinct q, times-append q l.pages m.pages))) in
    ap₂ (λ (x y : PlanePages). Some (record { levels = x; labels = y }))
    (sym (map_same l.pages a b stays) ∙ ap (map a) (sym c.pages.ensures) ∙ c.in_ok-write_plane.ensures.written (second.writes.honest honest) ∙ ap (λ (n : ℕ). pages_of_bytes n c.args.levels.now) (ap length c.pages.ensures ∙ levels))
    (ap (map b) (sym c.pages-2.ensures) ∙ wrote ∙ ap (λ (n : ℕ). pages_of_bytes n c.args.labels.now) (ap length c.pages-2.ensures ∙ labels)))
    (second.writes.others honest) (second.written honest)
