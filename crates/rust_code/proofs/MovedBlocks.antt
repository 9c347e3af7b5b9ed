-- Code with moves, statement by statement and arm by arm.
use Rattle.std.proofs.Common.{[], ◌≡◌, ◌+◌, ◌<◌, ◌≤◌, ◌||◌, ◌++◌, ◌∷◌, ◌∙◌, ℕ, Bool, List, length, get_or, drop, refl, sym, ap}
use Rattle.std.proofs.lemmas.List.{at_drop_more, at_drop_all}
use Rattle.model_code.specs.Code as M
use Rattle.model_code.specs.Code.{no_code_arm, no_statement, statement, Block, CodeArms}
use Rattle.model_code.specs.Modes.{Types}
use Rattle.model_code.specs.MovedOnce.{behind, block_reads, movable_after}
use Rattle.model_code.specs.Saving.{saved, saved_arms, saved_at}
use Rattle.rust_code.specs.declared.code.CodeArm.{CodeArm}
use Rattle.rust_code.specs.declared.code.Statement.{Statement}
use Rattle.rust_code.specs.CodeViews.{arm_view, arms_before, before, statement_view}
use Rattle.rust_code.proofs.StatementSteps.{arms_pushed, before_pushed}

-- a statement that is made, by its view
pub made_so : (types : Types) (movable : List ℕ) (rest : Block) (after : M.Place → Bool) (s made : Statement) (v w : M.Statement) → statement_view s ≡ v → statement_view made ≡ w
    → w ≡ saved_at types movable (behind v rest after) v → statement_view made ≡ saved_at types movable (behind (statement_view s) rest after) (statement_view s)
made_so types movable rest after s made v w is m e = m ∙ e ∙ ap (λ x. saved_at types movable (behind x rest after) x) (sym is)

module _ (types : Types) (after : M.Place → Bool) where
  abbrev pub left : List ℕ → List Statement → Block
  left movable ss = saved types movable after (before ss no_statement)

  pub block_more : (out new ss rest : List Statement) (s made : Statement) (i : ℕ) (movable : List ℕ) (whole : Block) → i < length ss → s ≡ get_or ss i s → rest ≡ drop (i + 1) ss → new ≡ out ++ made ∷ []
      → statement_view made ≡ saved_at types movable (behind (statement_view s) (before rest no_statement) after) (statement_view s) → before out (left movable (drop i ss)) ≡ whole
      → before new (left (movable_after movable (statement_view s)) (drop (i + 1) ss)) ≡ whole
  block_more out new ss rest s made i movable whole h at r is m inv =
      let tail = left (movable_after movable (statement_view s)) (drop (i + 1) ss) in
      before_pushed out new made tail is
      ∙ ap (before out)
      (ap (λ x. statement x tail) (m ∙ ap (λ l. saved_at types movable (behind (statement_view s) (before l no_statement) after) (statement_view s)) r) ∙ ap (λ x. left movable (x ∷ drop (i + 1) ss)) at
      ∙ sym (at_drop_more (λ l. left movable l) ss i s h))
      ∙ inv

  pub block_done : (out ss : List Statement) (i : ℕ) (movable : List ℕ) (whole : Block) → length ss ≤ i → before out (left movable (drop i ss)) ≡ whole → before out no_statement ≡ whole
  block_done out ss i movable whole h inv = ap (before out) (sym (at_drop_all (λ l. left movable l) ss i h)) ∙ inv

  module _ (movable : List ℕ) where
    abbrev pub arms_left : List CodeArm → CodeArms
    arms_left arms = saved_arms types movable after (arms_before arms no_code_arm)

    pub arms_more : (out new arms : List CodeArm) (a made : CodeArm) (i : ℕ) (whole : CodeArms) → i < length arms → a ≡ get_or arms i a → new ≡ out ++ made ∷ []
        → ((rest : CodeArms) → arm_view made (saved_arms types movable after rest) ≡ saved_arms types movable after (arm_view a rest)) → arms_before out (arms_left (drop i arms)) ≡ whole
        → arms_before new (arms_left (drop (i + 1) arms)) ≡ whole
    arms_more out new arms a made i whole h at is m inv =
        let tail = arms_left (drop (i + 1) arms) in
        ap (λ l. arms_before l tail) is ∙ arms_pushed out made tail
        ∙ ap (arms_before out) (m (arms_before (drop (i + 1) arms) no_code_arm) ∙ ap (λ x. arms_left (x ∷ drop (i + 1) arms)) at ∙ sym (at_drop_more (λ l. arms_left l) arms i a h))
        ∙ inv
