use Rattle.std.proofs.Common.{rules, ◌≡◌, ◌<◌, ◌-◌, [], ◌∷◌, ◌++◌, map, string_bytes, take, drop, length, sym, ap, ◌∙◌, List, ℕ, String}
use Rattle.std.specs.Prelude.{codes}
use Rattle.std.specs.Global.{Global}
use Rattle.std.proofs.lemmas.Bool.{both_ways}
use Rattle.std.proofs.lemmas.List.{map-append}
use Rattle.mosaic_tiles.specs.Layers.{spelling}
use Rattle.server.proofs.CommandLineLemmas.{no_options, some_option}
use Rattle.mosaic_tiles.proofs.Asking.{parts}
use Rattle.mosaic_tiles.proofs.layers.writing_in.Goals as goal

pub returns-then-has_option : goal.returns-then-has_option
returns-then-has_option c = λ w asked. some_option string_bytes c.args.words.now (c.has_option.ensures.0 c.if-has_option.true) asked.0

pub returns-in_ok-layer_of-in-len4-up : goal.returns-in_ok-layer_of-in-len4-up
returns-in_ok-layer_of-in-len4-up c =
    let words = c.args.words.now in
    let write = c.write-item.result in
    let path = c.path-item.result in
    let what = c.what-item.result in
    let folder = c.folder-item.result in
    let names : List (String Global) = take (length words - 1 - 3) (drop 3 words) in
    let written : string_bytes write ≡ codes "write" = search rules in
    let layer : string_bytes what ≡ spelling c.in_ok-layer_of-in-len4-up.field-0 = search rules in
    let named : string_bytes path ≡ c.as_str-in-len4-up.result.now = search rules in
    let tail : map string_bytes (names ++ folder ∷ []) ≡ map string_bytes names ++ c.as_str-in-len4-up-3.result.now ∷ [] =
    map-append string_bytes names (folder ∷ []) ∙ ap (λ (text : List ℕ). map string_bytes names ++ text ∷ []) (sym c.as_str-in-len4-up-3.ensures.value) in
    let some : 0 < length names = search rules in
    let whole : words ≡ write ∷ path ∷ what ∷ (names ++ folder ∷ []) = parts words write path what folder c.in-len4-up.len_at_least c.write-item.is c.path-item.is c.what-item.is c.folder-item.is in (
      no_options string_bytes words (λ any. both_ways _ c.if-has_option.false (c.has_option.ensures.1 any)),
      some,
      ap (map string_bytes) whole ∙ cc,
    )
