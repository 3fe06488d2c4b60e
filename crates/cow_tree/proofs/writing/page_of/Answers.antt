use Rattle.std.proofs.Common.{ℕ, ◌++◌, length, drop, replicate, List, ap, ◌∙◌}
use Rattle.std.proofs.lemmas.List.{drop-replicate}
use Rattle.page_codec.specs.Numbers.{zeros}
use Rattle.cow_tree.proofs.writing.page_of.Goals as goal

pub returns : goal.returns
unfolding zeros
returns c = ap (λ (front : List ℕ). front ++ drop (length c.args.bytes.now) (replicate 4096 0)) c.copy_from_slice.ensures.after ∙ ap (λ (rest : List ℕ). c.args.bytes.now ++ rest) (drop-replicate (length c.args.bytes.now) 4096 0)
