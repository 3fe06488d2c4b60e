-- The two bytes of a value of a plane, on the value's page.
use Rattle.std.proofs.Common.{◌≡◌, ℕ, ◌+◌, ◌-◌, ◌*◌, ◌/◌, ◌%◌, ◌<◌, List, [], length, drop, get_or, All, Some, sym, ap, ◌∙◌, subst, arith, slice_get, slice_range}
use Rattle.stored_mosaic.proofs.Prelude.{IsPage, PlanePages, StandsAt, concat, get_or_from_slice_get, plane_bytes, slice_get_within}
use Rattle.std.proofs.lemmas.Grind.{same_number_lists}
use Rattle.std.proofs.lemmas.List.{length-take, length-drop, get_or-take, get_or-drop}
use Rattle.stored_mosaic.proofs.Pages.{length_joined, byte_joined}

module _ (n : ℕ) (pages : PlanePages) (e : ℕ) (page : List ℕ) (all : All IsPage pages) (at : slice_get pages (e / 2048) ≡ Some page) (small : e < n * n) where
  pub two_stand : (two : List ℕ) → slice_range page (2 * (e % 2048)) (2 * (e % 2048) + 2) ≡ two → StandsAt (plane_bytes n pages) e two
  two_stand two is = same_number_lists (slice_range (plane_bytes n pages) (2 * e) (2 * e + 2)) (slice_range page from (from + 2)) (long ∙ sym short) each ∙ is
    where
      from : ℕ
      from = 2 * (e % 2048)

      within : e / 2048 < length pages
      within = slice_get_within pages (e / 2048) page at

      here : get_or pages (e / 2048) [] ≡ page
      here = get_or_from_slice_get pages (e / 2048) page [] at

      whole : length page ≡ 4096
      whole = (subst IsPage here (all (e / 2048) [] within)).whole

      long : length (slice_range (plane_bytes n pages) (2 * e) (2 * e + 2)) ≡ 2
      long = omega (arith, within, small, length_joined pages all, length-take (2 * e + 2 - 2 * e) (drop (2 * e) (plane_bytes n pages)), length-drop (2 * e) (plane_bytes n pages), length-take (2 * (n * n)) (concat pages))

      short : length (slice_range page from (from + 2)) ≡ 2
      short = omega (arith, whole, length-take (from + 2 - from) (drop from page), length-drop from page)

      each : (k : ℕ) → k < length (slice_range (plane_bytes n pages) (2 * e) (2 * e + 2)) → get_or (slice_range (plane_bytes n pages) (2 * e) (2 * e + 2)) k 0 ≡ get_or (slice_range page from (from + 2)) k 0
      each k below =
          let few : k < 2 = omega (arith, long, below) in
          get_or-take (2 * e + 2 - 2 * e) (drop (2 * e) (plane_bytes n pages)) k 0 (omega arith)
          ∙ get_or-drop (2 * e) (plane_bytes n pages) k 0
          ∙ get_or-take (2 * (n * n)) (concat pages) (2 * e + k) 0 (omega arith)
          ∙ ap (λ (j : ℕ). get_or (concat pages) j 0) (let split : 2 * e + k ≡ 4096 * (e / 2048) + (2 * (e % 2048) + k) = omega arith in split)
          ∙ byte_joined pages (e / 2048) (2 * (e % 2048) + k) 0 all within (omega arith)
          ∙ ap (λ (p : List ℕ). get_or p (from + k) 0) here
          ∙ sym (get_or-drop from page k 0)
          ∙ sym (get_or-take (from + 2 - from) (drop from page) k 0 (omega arith))
