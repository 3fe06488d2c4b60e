use Rattle.stored_mosaic.proofs.Prelude.{All, AreRimVoids, Corner, List, Mosaic, Ok, RimVoids, [], ap, ap₂, map, reads_on, refl, subst, sym, take_more, vec_len, ◌*◌, ◌++◌, ◌-◌, ◌∙◌, ◌∷◌, ◌≡◌}
use Rattle.std.proofs.lemmas.List.Elements.{All-push}
use Rattle.stored_mosaic.proofs.rims.read_rims.Goals as goal

map_push : (rims : List RimVoids) (rim : RimVoids) → map (λ r. r.corner) (rims ++ rim ∷ []) ≡ map (λ r. r.corner) rims ++ rim.corner ∷ []
map_push [] rim = refl
map_push (r ∷ rest) rim = ap (λ (cs : List Corner). r.corner ∷ cs) (map_push rest rim)

pub loop-corner-preserved : goal.loop-corner-preserved
loop-corner-preserved g c =
    let laws = g.met.S.Samples in
    let now = c.args.samples.now in
    let mid = c.loop-corner.samples in
    let so = c.loop-corner.invariant in
    let rims = c.loop-corner.rims.items in
    let rim = c.in_ok-rim.rim in
    let read = c.in_ok-rim.ensures in
    let pushed : c.push.new.self.items ≡ rims ++ rim ∷ [] = c.in-Ok.ensures.items in
    record {
      reads = reads_on g.S.Samples laws.keeps_on now mid c.read_rim.new.samples tt (Ok tt) so.reads read.reads;
      voids = λ honest.
          let honest_mid = read.reads.honest honest in
          subst (λ (l : List RimVoids). All (AreRimVoids (g.S.Samples.mosaic now) c.args.patch) l) (sym pushed)
          (All-push (AreRimVoids (g.S.Samples.mosaic now) c.args.patch) rims rim (so.voids honest_mid) (subst (λ (m : Mosaic). AreRimVoids m c.args.patch rim) (so.reads.mosaic honest_mid) (read.voids honest)));
      whole =
          subst (λ (l : List RimVoids). All (λ r. vec_len r.voids ≡ 4 * (g.S.Samples.side_of now - 1)) l) (sym pushed)
          (All-push (λ r. vec_len r.voids ≡ 4 * (g.S.Samples.side_of now - 1)) rims rim so.whole (read.whole ∙ ap (λ k. 4 * (k - 1)) so.reads.side));
      corners =
          ap (map (λ r. r.corner)) pushed ∙ map_push rims rim ∙ ap₂ (λ (l : List Corner) (d : Corner). l ++ d ∷ []) so.corners (read.corner ∙ c.corner-item.is)
          ∙ sym (take_more c.args.tiles.now c.loop-corner.corner-index c.corner-item.result c.loop-corner-test.true);
    }
