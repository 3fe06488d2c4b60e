-- Lines that are questions, and the bytes of their replies.
use Rattle.std.proofs.Common.{◌≡◌, ◌+◌, ◌≤◌, ◌++◌, ℕ, min, List, length, take, Result, Ok, Err, MatchResult, sym, ap, ◌∙◌, subst, arith, length-append}
use Rattle.lattice.specs.declared.refusal.Refusal.{Refusal}
use Rattle.lattice.specs.declared.refusal.Refusal.TheVariants.{BadLine}
use Rattle.engine.specs.declared.event.Event.{Event}
use Rattle.lines.specs.Grammar.{Asked, AskEvent, AskImport, AskNoTile, AskQuit, LineAsks}
use Rattle.lines.specs.Requests.{asked}
use Rattle.lines.specs.declared.request.Request.{Request}
use Rattle.lines.specs.declared.language.Language.TheVariants.{Tiles}
use Rattle.lines.specs.Questions.{OnlyAsks}
use Rattle.windows.specs.Lines.{AsksOnly, IsNoQuestion, IsPut}

-- The line asks for this event and nothing else.
pub asked_for : (line : List ℕ) (r : Request) (event : Event) (result : Result Event Refusal) → asked r ≡ AskEvent event → LineAsks Tiles line (asked r) → ((a : Asked) → LineAsks Tiles line a → a ≡ asked r)
    → MatchResult result (λ found. (found ≡ event) × OnlyAsks event) (λ why. (why ≡ BadLine) × (OnlyAsks event → ⊥)) → MatchResult result (AsksOnly line) (IsNoQuestion line)
asked_for line r event (Ok found) made asks only is = subst (AsksOnly line) (sym is.0) (subst (LineAsks Tiles line) made asks, is.1)
asked_for line r event (Err why) made asks only is =
    subst (IsNoQuestion line) (sym is.0) (
      (λ other other_asks. let same : AskEvent other ≡ AskEvent event = only (AskEvent other) other_asks.0 ∙ made in let alike : other ≡ event = cc in is.1 (subst OnlyAsks alike other_asks.1)),
      (λ none. let same : AskNoTile ≡ AskEvent event = only AskNoTile none ∙ made in cc),
    )

-- The line asks for something that isn't an event.
pub imports : (line name : List ℕ) (len : ℕ) → ((a : Asked) → LineAsks Tiles line a → a ≡ AskImport name len) → IsNoQuestion line BadLine
imports line name len only = (
  (λ event asks. let same : AskEvent event ≡ AskImport name len = only (AskEvent event) asks.0 in cc),
  (λ none. let same : AskNoTile ≡ AskImport name len = only AskNoTile none in cc),
)

pub quits : (line : List ℕ) → ((a : Asked) → LineAsks Tiles line a → a ≡ AskQuit) → IsNoQuestion line BadLine
quits line only = (
  (λ event asks. let same : AskEvent event ≡ AskQuit = only (AskEvent event) asks.0 in cc),
  (λ none. let same : AskNoTile ≡ AskQuit = only AskNoTile none in cc),
)

pub more_put : (made bytes into after : List ℕ) (at now : ℕ) → length into ≤ 18446744073709551615 → length after ≡ length into → IsPut made into at → now ≡ min (at + length bytes) 18446744073709551615
    → (at + length bytes ≤ length into → take (at + length bytes) after ≡ take at into ++ bytes) → IsPut (made ++ bytes) after now
more_put made bytes into after at now room same was counted put =
    let size = length-append made bytes in
    record {
      counted = omega (arith, size, was.counted, counted);
      put = λ fits.
          let here : at ≡ length made = omega (arith, size, was.counted, fits, room, same) in
          let sum : length (made ++ bytes) ≡ at + length bytes = omega (arith, size, here) in
          let front : take at into ≡ made = subst (λ n. take n into ≡ made) (sym here) (was.put (omega (arith, size, fits, same))) in
          ap (λ n. take n after) sum ∙ put (omega (arith, size, fits, same, here)) ∙ ap (λ xs. xs ++ bytes) front;
    }
