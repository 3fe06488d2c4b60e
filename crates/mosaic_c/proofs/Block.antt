-- A session in its block on the heap, for the proofs of `Kept`'s functions.
--     B, Held              the types of a block's contents and of a box, as rows
--     E                    the same in the form of the lemmas about boxes
--     kept_word            the machine value of a `Kept`
--     kept_in              makes a `Kept` from what a block owns
use Rattle.std.proofs.Common.{◌≡◌, ℕ, List, [], ◌∷◌, refl}
use Rattle.std.specs.Prelude.{Option, Some, None, IsTrue, is_some}
use seplogic.Ra.Ura.{Ura}
use mir.Syntax.{Dict, impl, tcons, tnil, dnil}
use mir.Val.{Val, vptr, vstruct, vcons, vnil}
use types.Logic.{Logic}
use types.Kit.{Item, Goal, Step, step, ‵, ◌$◌, fjoin, fpack, feq_i}
use denote.Builtin.{RawPtr}
use denote.Exit.{no}
use denote.Param.{layout, arg}
use denote.Param.Laws.{arg_laws}
use mir.Raw.{raw as bare}
use denote.RattleType.{RattleType, Valss}
use denote.RawPtr.{block_ptr}
use denote.Steps.{nothing}
use denote.Struct.Struct.{within}
use denote.Struct.Owning.{shape}
use Rattle.core.specs.contracts.mem.manually_drop.ManuallyDrop as undropped
use Rattle.core.proofs.mem.manually_drop.ManuallyDrop.TheLaws as undropped_laws
use Rattle.std_alloc.specs.contracts.boxed.Box as boxed
use Rattle.std_alloc.proofs.BoxSteps.Form.{Bx}
use Rattle.std_heap.specs.contracts.Global as heap
use Rattle.std_heap.specs.contracts.GlobalAllocator.TheImpl.{ghosts, dict}
use Rattle.std_heap.proofs.Global.TheLaws as heap_laws
use Rattle.mosaic_c.specs.declared.session.Session.{Session}
use Rattle.mosaic_c.specs.contracts.session.Session as session
use Rattle.mosaic_c.proofs.session.Session.TheLaws as session_laws
use Rattle.mosaic_c.specs.contracts.handle.Kept as kept
use Rattle.mosaic_c.specs.Owned.{owned}

abbrev pub B : RattleType
B = undropped.the_row session.the_row

-- the drop of a type that needs none
abbrev pub none : RattleType → Dict
none R = impl ("mosaic_c::Destruct++none::drop" ∷ []) (tcons (layout R) tnil) dnil

-- a row and its laws, as a call gets them for a type argument
abbrev pub given : RattleType → RattleType
given R = arg (bare (layout R)) no R

abbrev pub E : Bx
E = record {
  row = given B;
  laws = arg_laws (bare (layout B)) no B (undropped_laws.the_row_laws session.the_row session_laws.the_row_laws) refl;
  al = record {
    row = given heap.the_row;
    laws = arg_laws (bare (layout heap.the_row)) no heap.the_row heap_laws.the_row_laws refl;
    g = ghosts;
    d = dict;
    drops = none (given heap.the_row);
  };
}

-- a box of it, as the contracts name it
abbrev pub Held : RattleType
Held = boxed.the_row B heap.the_row ghosts

abbrev pub kept_word : ℕ → ℕ → Val
kept_word b o = vstruct (vcons (vptr b o) vnil)

pub some_is : {X : Type 0} (s : Option X) → IsTrue (is_some s) → (x : X) × (s ≡ Some x)
some_is (Some x) is = (x, refl)
some_is None is = cc

module _ {M : Type 1} {𝓤 : Ura M} {𝓛 : Logic 𝓤} {K : Type 0} {Γ : List (Item 𝓤)} {G : Goal 𝓤 𝓛.H} where
  pub kept_in : K → (b o : ℕ) (x : Session)
      → Step K 𝓛 (‵ (kept.the_row.own_val (record { at = block_ptr b o; session = Some x }) (kept_word b o ∷ [])) ∷ Γ) G (‵ (owned (block_ptr b o) (Some x)) ∷ Γ) G
  kept_in t b o x = step (λ s.
      nothing t $ feq_i t (List Val) (vptr b o ∷ []) (vptr b o ∷ []) refl $ fjoin t $ feq_i t (List Val) (kept_word b o ∷ []) (kept_word b o ∷ []) refl $ fjoin t $
      fpack t (Valss (RawPtr ∷ [])) (within (shape kept.the_type) (block_ptr b o, tt) (kept_word b o ∷ [])) (vptr b o ∷ [], tt) $ fjoin t $ s)
