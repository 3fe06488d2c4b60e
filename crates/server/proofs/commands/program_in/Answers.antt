use Rattle.std.proofs.Common.{◌≡◌, List, [], ◌∷◌, ◌++◌, map, refl, subst}
use Rattle.std.specs.Prelude.{Option, Some}
use Rattle.server.specs.Places.{Access, Accesses, Closes}
use Rattle.server.specs.Program.{CarriesOut}
use Rattle.server.proofs.commands.program_in.Goals as goal

-- one more access after these
module _ {P D : Type 0} (accessed : P → Access D → P → Type 0) where
  one_more : (accesses : List (Access D)) (old mid new : P) (last : Access D) → Accesses accessed old accesses mid → accessed mid last new → Accesses accessed old (accesses ++ last ∷ []) new
  one_more [] old mid new last none closed = (new, subst (λ (p : P). accessed p last new) none closed, refl)
  one_more (access ∷ more) old mid new last (between, first, rest) closed = (between, first, one_more more between mid new last rest closed)

pub returns-in-Some : goal.returns-in-Some
returns-in-Some g c =
    let did = c.carry_out-status.ensures in (
      did.0 ++ Closes c.in-Some.disk ∷ [],
      one_more _ did.0 _ _ _ (Closes c.in-Some.disk) did.1 c.close.ensures,
      (
        Some c.in-Some.disk,
        did.2.0,
        did.0,
        refl,
        subst (λ (disk : Option _). CarriesOut g.P.File.Disk c.args.language (map g.S.AsStr.text c.args.words.now) did.0 (g.R.Read.remaining c.args.reader.now) (g.R.Read.remaining c.carry_out-status.new.reader) (g.O.Output.stream c.args.writer.now) (g.O.Output.stream c.carry_out-status.new.writer) disk did.2.0 c.carry_out-status.result.status) c.in-Some.is did.2.1,
      ),
    )
