-- `and` makes a ghost transcript with one call more. The value takes no bytes.
use Rattle.std.proofs.Common.{[], ◌∷◌, refl}
use Rattle.std.proofs.raw_atomic.Walks.{proved}
use base.Fml.{ftrue}
use mir.Syntax.{named}
use mir.Val.{vstruct, vnil}
use types.Kit.{‵, raw, ◌⊛◌, ◌$◌, ◌∵◌, !, qed, keep, split, move, suffices, done}
use types.Part.{agg}
use types.Run.{no_more, returns, enter}
use types.ByLocal.{alloc_all, pass_all, free_all, look_at, sets}
use denote.Exit.{yes}
use denote.RattleType.{owns}
use denote.Ref.{shr_vals, shr_Tells}
use denote.Shadow.{pure_i}
use denote.Signature.{plain, types_at, named_lft}
use denote.Triple.Entry.{alive}
use denote.Triple.Walked.{says, Stays, stay_none_ref, Goes-none_ref, ends_at}
use Rattle.disk.specs.FileSteps.{answered}
use Rattle.disk.specs.contracts.transcript.Transcript.{the_row as R}
use Rattle.disk.specs.contracts.transcript.FileCall as call
use Rattle.disk.specs.declared.transcript.Transcript.{Transcript}
use Rattle.disk.specs.contracts.transcript.Transcript.and as f
use Rattle.disk.proofs.transcript.Transcript.and.Statement.{statement}
use Rattle.disk.proofs.transcript.Transcript.and.Code as code

abbrev stayed : Stays f.ended.signature.params f.ended.kept
stayed = (stay_none_ref (0 ∷ []) tt (plain (λ _. R)) yes, (stay_none_ref (1 ∷ []) tt (plain (λ κs. call.the_row (named_lft 3 2 tt κs))) yes, tt))

pub and_spec : {M : Type 1} → statement M
and_spec 𝓤 𝓛 𝓜 𝓡 wired =
    let c = f.clauses 𝓛 𝓜.mem 𝓡.returns in
    proved 𝓛 f.ended stayed c 𝓜 𝓡 (Goes-none_ref 𝓛 3 (0 ∷ []) tt (plain (λ _. R)) yes, (Goes-none_ref 𝓛 3 (1 ∷ []) tt (plain (λ κs. call.the_row (named_lft 3 2 tt κs))) yes, tt))
    f.Key.name code.function (code.unfolded 𝓤 𝓛.H 𝓜 𝓡 wired)
    (λ κs. (shr_vals, (shr_vals, tt))) (λ κs. (shr_Tells (named 0) κs.0 R, (shr_Tells (named 1) κs.1.0 (call.the_row (named_lft 3 2 tt κs)), tt))) (λ κs qs bounds a _ are.
    let made : Transcript = record { calls = answered a.1.0.now ∷ a.0.now.calls } in
    qed 𝓛 ((raw (alive 𝓛 f.signature κs qs) ⊛ ‵ (owns (types_at f.signature.params κs) a (shr_vals a.0, (shr_vals a.1.0, tt)))) ∷ ‵ ftrue ∷ []) ∵ keep ! (0 ∷ []) $ split ! $
    enter ! _ _ _ _ _ $ alloc_all ! (λ l. pass_all ! refl ((tt, tt), ((tt, tt), tt)) $
    sets ! (agg ! (no_more !)) refl (tt, tt) $
    returns ! (look_at ! 0 refl) $ free_all ! refl $
    suffices ! _ (ends_at 𝓛 f.ended stayed c ((κs, qs, bounds, a, (shr_vals a.0, (shr_vals a.1.0, tt))), tt) (vstruct vnil) made (tt, (tt, tt)) (tt, (tt, tt))) $ says ! refl $
    pure_i ! (R.own_val made (vstruct vnil ∷ [])) ((λ vss. (tt, tt)), tt) ((tt, (refl, tt)), tt) $
    move ! (1 ∷ 2 ∷ 0 ∷ []) $ done !))
