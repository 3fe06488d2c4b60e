use Rattle.std.proofs.Common.{◌≡◌, ℕ, ◌+◌, ◌-◌, ◌*◌, min, List, ◌++◌, length, take, IsOk, Result, Ok, Err, is_ok, if◌then◌else◌, vec_len, sym, ap, ◌∙◌, subst, arith, length-take-le}
use Rattle.std.proofs.lemmas.Result.{err_from_is_err_and}
use Rattle.stored_mosaic.proofs.Prelude.{HasPage, Refusal, RootValue, StoredTile, pages_of, read_again, staged_in}
use Rattle.stored_mosaic.proofs.Reading.QueryingPages.{IsReadTo, read_more, all_read, page_of_tile}
use Rattle.stored_mosaic.proofs.kept_plane.read_plane.Goals as goal

-- an `if` on whether the result is Ok, in the case Ok
grown_items : {A E B : Type 0} (r : Result A E) (new more same : B) → new ≡ (if is_ok r then more else same) → IsOk r → new ≡ more
grown_items (Ok x) new more same e ok = e
grown_items (Err x) new more same e ok = absurd (cc)

pub loop-i-preserved : goal.loop-i-preserved
loop-i-preserved g c =
    let d = g.D.Disk in
    let old = c.args.tree.now in
    let mid = c.loop-i.tree in
    let reads = c.in_ok-scan_page.ensures.reads in
    let so_far = c.loop-i.invariant in
    let len = c.file_bytes-len.result in
    let bytes = c.loop-i.bytes in
    let page = c.scan_page.new.into in
    let count = c.min-count.result in
    let some : length (take count page) ≡ count = length-take-le count page (omega (arith, c.min-count.ensures, c.scan_page.array_long)) in
    let ok : IsOk c.extend_from_slice.result = c.extend_from_slice.ensures.succeeds (omega (arith, some, c.min-count.ensures, so_far.upto, so_far.room, c.len.ensures)) in
    let grown : c.extend_from_slice.new.self.items ≡ bytes.items ++ take count page = grown_items _ _ _ _ c.extend_from_slice.ensures.items ok in
    let longer : vec_len c.extend_from_slice.new.self ≡ vec_len bytes + length (take count page) = grown_items _ _ _ _ c.extend_from_slice.ensures.len ok in
    let long : vec_len bytes ≡ length bytes.items = omega (arith, bytes.ok.0) in
    let counted : count ≡ min (len - length bytes.items) 4096 = c.min-count.ensures ∙ ap (λ (k : ℕ). min (len - k) 4096) (c.len.ensures ∙ long) in
    record {
      keeps = read_again d old mid c.scan_page.new.self so_far.keeps reads.keeps;
      works = reads.not_failed;
      upto = omega (arith, longer, some, c.min-count.ensures, so_far.upto, c.len.ensures);
      room = omega (arith, c.extend_from_slice.ensures.capacity, so_far.room);
      read = λ honest t pages is has.
          let was = reads.keeps.honest honest in
          let here : HasPage (staged_in d old) c.args.corner c.args.plane c.loop-i.i page =
          subst (λ (tiles : List StoredTile). HasPage tiles c.args.corner c.args.plane c.loop-i.i page) (so_far.keeps.staged was) (c.in_ok-scan_page.ensures.page honest) in
          subst (λ (l : List ℕ). IsReadTo len pages (c.loop-i.i + 1) l) (sym (grown ∙ ap (λ (k : ℕ). bytes.items ++ take k page) counted))
          (read_more len pages c.loop-i.i bytes.items page (so_far.read was t pages is has) (page_of_tile c.args.plane (staged_in d old) c.args.corner t pages c.loop-i.i page is has here) c.scan_page.array_long);
    }

pub returns-clause-bytes : goal.returns-clause-bytes
returns-clause-bytes g c honest t pages is has =
    let n : ℕ = c.args.tree.now.roots.root.side in
    let bytes = c.loop-i.bytes.items in
    let side : c.side-side.result ≡ n = c.side-side.ensures.value ∙ ap (λ (r : RootValue). r.side) c.current.ensures in
    let len : c.file_bytes-len.result ≡ 2 * (n * n) = c.file_bytes-len.ensures.value ∙ ap (λ (k : ℕ). 2 * (k * k)) side in
    let ended : c.loop-i.i ≡ c.pages_in_plane-i-end.result = omega (arith, c.loop-i-test.false, c.loop-i.auto.i-end) in
    let count : c.loop-i.i ≡ pages_of n = ended ∙ c.pages_in_plane-i-end.ensures.value ∙ ap pages_of side in
    all_read n pages bytes (subst (λ (k : ℕ). IsReadTo (2 * (n * n)) pages k bytes) count
    (subst (λ (k : ℕ). IsReadTo k pages c.loop-i.i bytes) len (c.loop-i.invariant.read honest t pages is has)))

pub returns-in_err-scan_page-clause-reads : goal.returns-in_err-scan_page-clause-reads
returns-in_err-scan_page-clause-reads g c =
    let so_far = c.loop-i.invariant in
    let read = c.in_err-scan_page.ensures.reads in
    let p = err_from_is_err_and c.from_residual.result c.from_residual.ensures.1 in
    rw (p.1 ∙ ap (λ (r : Refusal). Err r) p.2) record {
      keeps = read_again g.D.Disk c.args.tree.now c.loop-i.tree c.scan_page.new.self so_far.keeps read.keeps;
      refused = read.refused;
      device = λ is. let risen = read.device is in let later = so_far.keeps.later in omega (arith, risen, later);
      only_device = λ _. read.only_device so_far.works;
      not_failed = read.not_failed;
      failed = read.failed;
    }
