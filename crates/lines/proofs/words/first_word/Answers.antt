use Rattle.std.proofs.Common.{arith, ◌≡◌, ◌-◌, ◌+◌, length, drop, take}
use Rattle.std.proofs.lemmas.Grind.{common_steps}
use Rattle.lines.proofs.WordLemmas.{cut-at, cut-one}
use Rattle.lines.proofs.words.first_word.Goals as goal

pub returns-in-Some : goal.returns-in-Some
returns-in-Some c =
    let text = c.args.text.now in
    let space = c.in-Some.space in
    let rest : take (length text - (space + 1)) (drop (space + 1) text) ≡ drop (space + 1) text = grind (arith, common_steps) in
    rw rest (cut-at text space c.in-Some.ensures.0 c.in-Some.ensures.1 c.in-Some.ensures.2)

pub returns-in-None : goal.returns-in-None
returns-in-None c = cut-one c.args.text.now c.in-None.ensures
