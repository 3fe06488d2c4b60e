use Rattle.std.proofs.Common.{arith, rules, ◌≡◌, [], ◌∷◌, map, string_bytes, ap, ◌∙◌}
use Rattle.std.specs.Prelude.{codes}
use Rattle.std.proofs.lemmas.Bool.{both_ways}
use Rattle.server.proofs.CommandLineLemmas.{no_options, some_option}
use Rattle.mosaic_tiles.proofs.Asking.{two}
use Rattle.mosaic_tiles.proofs.reading.reading_in.Goals as goal

pub returns-then-has_option : goal.returns-then-has_option
returns-then-has_option c = λ path asked. some_option string_bytes c.args.words.now (c.has_option.ensures.0 c.if-has_option.true) asked.0

pub returns-in-len2 : goal.returns-in-len2
returns-in-len2 c =
    let words = c.args.words.now in
    let read = c.read-item.result in
    let path = c.path-item.result in
    let reads : string_bytes read ≡ codes "read" = search rules in
    let whole : words ≡ read ∷ path ∷ [] = two words read path (omega (arith, c.in-len2.len_at_least, c.in-len2.len_below)) c.read-item.is c.path-item.is in
    (no_options string_bytes words (λ any. both_ways _ c.if-has_option.false (c.has_option.ensures.1 any)), ap (map string_bytes) whole ∙ cc)
