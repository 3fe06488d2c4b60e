use Rattle.std.proofs.Common.{ℕ, [], ◌∷◌, Ok, Err, inl, inr, refl, ap, ◌∙◌}
use Rattle.page_codec.specs.Sizes.{sectors_asked}
use Rattle.server.specs.Places.{Makes}
use Rattle.server.proofs.commands.format.Goals as goal

pub returns-in-Err : goal.returns-in-Err
returns-in-Err g c = ([], refl, inl (c.in-Err.refusal, refl, refl, c.in-Err.ensures.refused, c.refuse.ensures))

pub returns-in-Ok-make : goal.returns-in-Ok-make
returns-in-Ok-make g c =
    let asked = c.sectors.ensures ∙ ap sectors_asked c.in-Ok.ensures.taken.1 in (
      Makes c.args.path.now c.sectors.result (Ok c.in-Ok-make.disk) ∷ [],
      (c.make.new.self, c.in-Ok-make.ensures.accessed, refl),
      inr (
        Ok c.in-Ok-make.disk,
        ap (λ (n : ℕ). Makes c.args.path.now n (Ok c.in-Ok-make.disk) ∷ []) asked,
        c.in-Ok.ensures.taken.0,
        (c.make_store.result.0, c.exit_on.ensures.disk, c.in-Ok-make.ensures.size ∙ asked, rw c.exit_on.ensures.status c.make_store.ensures),
      ),
    )

pub returns-in-Err-make : goal.returns-in-Err-make
returns-in-Err-make g c =
    let asked = c.sectors.ensures ∙ ap sectors_asked c.in-Ok.ensures.taken.1 in (
      Makes c.args.path.now c.sectors.result (Err c.in-Err-make.fault) ∷ [],
      (c.make.new.self, c.in-Err-make.ensures.accessed, refl),
      inr (
        Err c.in-Err-make.fault,
        ap (λ (n : ℕ). Makes c.args.path.now n (Err c.in-Err-make.fault) ∷ []) asked,
        c.in-Ok.ensures.taken.0,
        (refl, c.tell_fault.ensures),
      ),
    )
