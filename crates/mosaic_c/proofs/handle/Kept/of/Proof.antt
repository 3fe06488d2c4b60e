-- `of` takes over the pointer in the box, and what the box owned.
use Rattle.std.proofs.Common.{List, [], ◌∷◌, ◌++◌, refl, ap, ◌∙◌}
use Rattle.std.specs.Prelude.{Some}
use base.Fml.{ftrue, fsep, flft}
use base.Fraction.{full_share}
use base.Logic.{emp, fst∗, id⊢, never}
use contract.BorrowLft.{⊑_static, ◌⊑◌}
use contract.Monad.{fact, fact_i}
use contract.Running.{tables}
use denote.Exit.{no}
use denote.Param.NoDrop.{glues}
use denote.Builtin.{RawPtr}
use denote.RawPtr.{Ptr, block_ptr, null_ptr, ptr_val, in_a_block}
use denote.Signature.{plain}
use denote.Steps.{nothing, only}
use denote.Triple.Call.{calls_at}
use denote.Triple.Clauses.{Lasts, lasts}
use denote.Triple.Spec.{triple_of}
use denote.Triple.Table.{framed}
use denote.Triple.Walked.{says, Stays, stay_dropped, walk_of, ends_at}
use mir.Raw.{raw as bare}
use mir.Val.{Val}
use prog.Wp.{WpFn}
use types.ByLocal.{alloc_all, pass_all, free_all, look_at, get, sets, lands_as}
use types.Kit.{‵, raw, prop, ◌⊛◌, some, later, ◌$◌, ◌∵◌, !, qed, done, move, keep, drop, use0, use1, split, join, fsplit, fjoin, feq_l, pick, await, regoal, suffices}
use types.Logic.{sem}
use types.Part.{agg}
use types.Run.{enter, of_opd, no_more, and_then, returns}
use types.Tokens.{lft_new}
use Rattle.core.proofs.alloc.Calls.{Goes-blank, token}
use Rattle.std.proofs.raw_atomic.Walks.{proved_at}
use Rattle.std_alloc.specs.Box.Ownership.{box_owns}
use Rattle.std_alloc.proofs.BoxSteps.Form as box
use Rattle.std_alloc.proofs.BoxSteps.Steps.{box_out, box_in}
use Rattle.std_alloc.specs.contracts.boxed.Box.into_raw as g
use Rattle.std_alloc.proofs.boxed.Box.into_raw.Met.{met}
use Rattle.std_heap.proofs.GlobalAllocator.TheImpl.Met.{passed}
use Rattle.std_heap.specs.contracts.GlobalAllocator.TheImpl.{ghosts, dict}
use Rattle.mosaic_c.proofs.Block.{E, Held, none, kept_word, kept_in}
use Rattle.mosaic_c.specs.contracts.handle.Kept.of as f
use Rattle.mosaic_c.specs.contracts.handle.Kept.of.Key.{name as #self}
use Rattle.mosaic_c.proofs.handle.Kept.of.Statement.{statement}
use Rattle.mosaic_c.proofs.handle.Kept.of.Code as code
use Rattle.mosaic_c.proofs.Destruct++none.drop.Code.{code as none_code}

abbrev stayed : Stays f.ended.signature.params f.ended.kept
stayed = (stay_dropped (plain (λ _. Held)) no, tt)

pub of_spec : {M : Type 1} → statement M
unfolding none_code
of_spec {M} 𝓤 𝓛 𝓜 𝓡 wired =
    let c = f.clauses 𝓛 𝓜.mem 𝓡.returns in let W = walk_of 𝓛 f.ended stayed c in let 𝓣 = tables 𝓤 𝓛.H 𝓜 𝓡 𝓡.env in
    let heap_met = passed 𝓡.env (code.calls-std_heap::GlobalAllocator::allocate 𝓡.env wired) (code.calls-std_heap::GlobalAllocator::deallocate 𝓡.env wired)
    (code.calls-std_heap::GlobalAllocator::grow 𝓡.env wired) (code.calls-std_heap::GlobalAllocator::shrink 𝓡.env wired) M 𝓤 𝓛 𝓜 𝓡 in
    let Z = E.al.row in let Y = E.row in
    proved_at 𝓛 f.ended stayed c 𝓜 𝓡 (Goes-blank 𝓛 0 (plain (λ _. Held)) no (λ κs x w. tt), tt) #self code.function (code.unfolded 𝓤 𝓛.H 𝓜 𝓡 wired) (λ z are.
    let v = z.0.3.0 in
    qed 𝓛 ((‵ ftrue ⊛ ‵ (fsep ((box.B E).own_val v z.0.4.0) ftrue)) ∷ raw (emp 𝓤) ∷ []) ∵ split ! $ drop ! $ fsplit ! $ box_out E ! v z.0.4.0 (λ b o h e ws fits. box_in E ! v b o v.value e refl $
    -- owned: [the box; nothing; nothing]
    let w = box.word E h b o in let typed = box.box_typed E h b o fits in
    regoal ! (λ (us : List Val). prop (WpFn 𝓤 𝓛.H 𝓣.C 𝓣.Λ code.function (us ++ []) (W.post z))) ws refl $
    enter ! _ _ _ _ _ $ alloc_all ! (λ l. pass_all ! refl (typed, tt) $
    sets ! (of_opd ! (get ! refl)) refl typed $
    fjoin ! $ lft_new ! tt (λ α. lft_new ! tt (λ β.
    let G = triple_of 𝓛 (g.signature Y Z ghosts dict (none Z) (none Y)) (g.spec Y Z ghosts dict (none Z) (none Y) 𝓛 𝓜.mem 𝓡.returns) in
    let y : G.Ghost = (((α ∷ [], (β ∷ [], tt)), (full_share, (full_share, tt)), tt, (v, tt), (w ∷ [], tt)), tt) in
    let toks = ‵ (flft (α ∷ []) full_share) ⊛ ‵ (flft (β ∷ []) full_share) ⊛ ‵ ftrue in
    -- owned: [the token of β; of α; the box; nothing]
    nothing ! $ move ! (1 ∷ 0 ∷ []) $ join ! $ move ! (1 ∷ 0 ∷ []) $ join ! $ join ! $ move ! (1 ∷ []) $
    use0 𝓛 (raw (fact 𝓤 ((β ∷ []) ⊑ Z.lives))) (fact_i 𝓤 ((β ∷ []) ⊑ Z.lives) (emp 𝓤) (⊑_static (β ∷ []))) $ join ! $
    use0 𝓛 (raw (fact 𝓤 ((α ∷ []) ⊑ Y.lives))) (fact_i 𝓤 ((α ∷ []) ⊑ Y.lives) (emp 𝓤) (⊑_static (α ∷ []))) $ join ! $
    move ! (1 ∷ []) $ join ! $ use1 𝓛 (raw (G.pre y)) (id⊢ 𝓤 _) $
    calls_at ! (framed 𝓤 𝓛.H 𝓜 𝓣) G (met 𝓤 𝓛 𝓜 𝓡 (code.calls-std_alloc::boxed::Box::into_raw 𝓡.env wired) Y Z E.laws E.al.laws ghosts dict (none Z) (none Y) heap_met (glues "mosaic_c::Destruct++none::drop" 𝓡.env (code.calls-mosaic_c::Destruct++none::drop 𝓡.env wired) Z E.al.laws M 𝓤 𝓛 𝓜 𝓡) (glues "mosaic_c::Destruct++none::drop" 𝓡.env (code.calls-mosaic_c::Destruct++none::drop 𝓡.env wired) Y E.laws M 𝓤 𝓛 𝓜 𝓡)) y
    (and_then ! (get ! refl) (no_more !)) (λ u.
    use1 𝓛 (later (some (λ (r : Ptr). (toks ⊛ ‵ (RawPtr.own_val r (u ∷ []))) ⊛ some (λ (ls : Lasts (g.ended Y Z ghosts dict (none Z) (none Y)) y.0.0 y.0.3). ‵ (lasts (g.ended Y Z ghosts dict (none Z) (none Y)) y.0.0 y.0.3 ls) ⊛ ‵ (box_owns (token E.al v.alloc) (box.R E) r v.value))))) (id⊢ 𝓤 _) $
    await ! tt $ pick ! (λ r. split ! $ move ! (1 ∷ []) $ pick ! (λ ls. split ! $ drop ! $
    in_a_block ! r (λ p. box_owns (token E.al v.alloc) (box.R E) p v.value) (fst∗ 𝓤 (never 𝓤) (sem 𝓛 (token E.al v.alloc (bare (box.τ E)) null_ptr))) (λ b' o' e'.
    -- owned: [what the block owns; the tokens with the pointer]
    move ! (1 ∷ []) $ split ! $ drop ! $ feq_l ! (λ eu.
    lands_as ! (ap only (eu ∙ ap (λ (p : Ptr). ptr_val p ∷ []) e')) refl (tt, tt) $
    sets ! (of_opd ! (get ! refl)) refl (tt, tt) $
    sets ! (agg ! (and_then ! (get ! refl) (no_more !))) refl (tt, (tt, tt)) $
    returns ! (look_at ! 0 refl) $ free_all ! refl $ keep ! (0 ∷ []) $ kept_in ! b' o' v.value.value $
    suffices ! _ (ends_at 𝓛 f.ended stayed c z (kept_word b' o') (record { at = block_ptr b' o'; session = Some v.value.value }) (_, tt) (tt, tt)) $ says ! refl $
    nothing ! $ nothing ! $ fjoin ! $ join ! $ nothing ! $ join ! $ done !))))))))))
