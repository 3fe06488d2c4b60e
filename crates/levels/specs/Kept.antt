-- Laws of loading tiles: what was loaded and right before is so afterwards.
use Rattle.std.specs.Prelude.{ℕ, List, Option, Ok, Err, refl}
use Rattle.std.proofs.Common.{sym, ◌∙◌, subst}
use Rattle.lattice.specs.Corners.{Corner}
use Rattle.lattice.specs.Mosaic.{Mosaic}
use Rattle.lattice.specs.declared.refusal.Refusal.{Refusal}
use Rattle.lattice.specs.declared.refusal.Refusal.TheVariants.{NoMemory}
use Rattle.catalogue.specs.declared.samples.Samples.{Ghosts}
use Rattle.catalogue.proofs.Reading.{reads_nothing, reads_on}
use Rattle.catalogue.proofs.Asking.{asked, asked_on}
use Rattle.border_graph.specs.TileGraph.{TileGraph}
use Rattle.levels.specs.RimGraphs.{AreLoaded, AreReady, AreKept}
use Rattle.levels.specs.Holding.{Known, IsRight, IsGrown, IsCarried, IsRefused}

module _ {S : Type 0} (g : Ghosts S) where
  pub kept_itself : (a : S) (side : ℕ) (corners : List Corner) (loaded : List (Option TileGraph)) → AreKept g a a side corners loaded side corners loaded
  kept_itself a side corners loaded = record { honest = λ h. h; mosaic = λ _. refl; same_side = refl; same_corners = refl; still = λ t ways is. is }

  module _ (a b : S) (side : ℕ) (corners : List Corner) (loaded : List (Option TileGraph)) (side' : ℕ) (corners' : List Corner) (loaded' : List (Option TileGraph)) (kept : AreKept g a b side corners loaded side' corners' loaded') where
    -- the tiles are ready after loading more if the loaded graphs are right
    pub ready_later : AreReady (g.mosaic a) side corners loaded → AreLoaded (g.mosaic a) side corners loaded' → AreReady (g.mosaic a) side' corners' loaded'
    ready_later ready tiles =
        subst (λ s. AreReady (g.mosaic a) s corners' loaded') (sym kept.same_side) (subst (λ (cs : List Corner). AreReady (g.mosaic a) side cs loaded') (sym kept.same_corners)
        (record { same_side = ready.same_side; all = ready.all; room = ready.room; tiles = tiles }))

    module _ (c : S) (side'' : ℕ) (corners'' : List Corner) (loaded'' : List (Option TileGraph)) (then_ : AreKept g b c side' corners' loaded' side'' corners'' loaded'') where
      pub kept_on : AreKept g a c side corners loaded side'' corners'' loaded''
      kept_on = record {
        honest = λ honest. kept.honest (then_.honest honest);
        mosaic = λ honest. then_.mosaic honest ∙ kept.mosaic (then_.honest honest);
        same_side = then_.same_side ∙ kept.same_side;
        same_corners = then_.same_corners ∙ kept.same_corners;
        still = λ t ways is. then_.still t ways (kept.still t ways is);
      }

  pub grown_itself : (a : S) (known : Known) → IsGrown g a a known known
  grown_itself a known = record { kept = kept_itself a known.side known.corners known.loaded; levels = refl; right = λ _ r. r }

  pub grown_on : (a b c : S) (known known' known'' : Known) → IsGrown g a b known known' → IsGrown g b c known' known'' → IsGrown g a c known known''
  grown_on a b c known known' known'' one two = record {
    kept = kept_on a b known.side known.corners known.loaded known'.side known'.corners known'.loaded one.kept c known''.side known''.corners known''.loaded two.kept;
    levels = two.levels ∙ one.levels;
    right = λ honest r.
        let mid = two.kept.honest honest in
        let same = one.kept.mosaic mid in
        subst (λ (m : Mosaic). IsRight m known'') same (two.right honest (subst (λ (m : Mosaic). IsRight m known') (sym same) (one.right mid r)));
  }

  -- right results stay right, for the mosaic of the later samples
  pub right_still : (a b : S) (known known' : Known) → IsGrown g a b known known' → g.is_honest b → IsRight (g.mosaic a) known → IsRight (g.mosaic b) known'
  right_still a b known known' grown honest right = subst (λ (m : Mosaic). IsRight m known') (sym (grown.kept.mosaic honest)) (grown.right honest right)

  pub carried_itself : (keeps_itself : (s : S) → g.keeps s s) (a : S) (known : Known) → IsCarried g a a known known
  carried_itself keeps_itself a known = record { grown = grown_itself a known; reads = reads_nothing g keeps_itself a tt }

  module _ (keeps_on : (a b c : S) → g.keeps a b → g.keeps b c → g.keeps a c) (a b : S) (known known' : Known) (carried : IsCarried g a b known known') where
    module _ (c : S) (known'' : Known) where
      pub carried_on : IsCarried g b c known' known'' → IsCarried g a c known known''
      carried_on then_ = record { grown = grown_on a b c known known' known'' carried.grown then_.grown; reads = reads_on g keeps_on a b c tt (Ok tt) carried.reads then_.reads }

      pub refused_on : (r : Refusal) → IsRefused g b c known' known'' r → IsRefused g a c known known'' r
      refused_on r then_ = record {
        grown = grown_on a b c known known' known'' carried.grown then_.grown;
        cause = then_.cause;
        asked = λ right. asked_on g keeps_on a b c tt (Err r) carried.reads
            (then_.asked (λ honest. right_still a b known known' carried.grown (then_.grown.kept.honest honest) (right honest)));
      }

    pub ran_out : IsRefused g a b known known' NoMemory
    ran_out = record { grown = carried.grown; cause = refl; asked = λ _. asked g a b tt (Err NoMemory) carried.reads tt (λ _ _ e. absurd (cc)) }
