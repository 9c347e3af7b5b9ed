-- Statements and arms added one after another.
use Rattle.std.proofs.Common.{◌≡◌, ℕ, ◌+◌, ◌<◌, ◌≤◌, List, [], ◌∷◌, ◌++◌, length, get_or, drop, slice_get, refl, sym, ap, ◌∙◌}
use Rattle.std.proofs.lemmas.List.{at_drop_more, at_drop_all}
use Rattle.model.specs.sites.Sites.{Site}
use Rattle.model_code.specs.Code.{Block, statement, CodeArms}
use Rattle.model_code.specs.TreeCode.{Passes, bind_code, binds_code}
use Rattle.rust_code.specs.declared.code.CodeArm.{CodeArm}
use Rattle.rust_code.specs.declared.code.Statement.{Statement}
use Rattle.rust_code.specs.CodeViews.{arm_view, arms_before, before, statement_view}

pub before_added : (out more : List Statement) (rest : Block) → before (out ++ more) rest ≡ before out (before more rest)
before_added [] more rest = refl
before_added (s ∷ out) more rest = ap (statement (statement_view s)) (before_added out more rest)

pub before_pushed : (out new : List Statement) (s : Statement) (rest : Block) → new ≡ out ++ s ∷ [] → before new rest ≡ before out (statement (statement_view s) rest)
before_pushed out new s rest is = ap (λ l. before l rest) is ∙ before_added out (s ∷ []) rest

pub arms_pushed : (out : List CodeArm) (a : CodeArm) (rest : CodeArms) → arms_before (out ++ a ∷ []) rest ≡ arms_before out (arm_view a rest)
arms_pushed [] a rest = refl
arms_pushed (b ∷ out) a rest = ap (arm_view b) (arms_pushed out a rest)

module _ (sites : List Site) (p : Passes) where
  pub binds_more : (out new : List Statement) (ss : List ℕ) (b : Statement) (s i : ℕ) (whole : Block → Block) → i < length ss → s ≡ get_or ss i s
      → statement_view b ≡ bind_code sites p s (slice_get sites s) → new ≡ out ++ b ∷ []
      → ((rest : Block) → before out (binds_code sites p (drop i ss) rest) ≡ whole rest) → (rest : Block) → before new (binds_code sites p (drop (i + 1) ss) rest) ≡ whole rest
  binds_more out new ss b s i whole h at same is inv rest =
      let tail = binds_code sites p (drop (i + 1) ss) rest in
      before_pushed out new b tail is
      ∙ ap (λ x. before out (statement x tail)) (same ∙ ap (λ k. bind_code sites p k (slice_get sites k)) at)
      ∙ ap (before out) (sym (at_drop_more (λ l. binds_code sites p l rest) ss i s h)) ∙ inv rest

  pub binds_done : (out : List Statement) (ss : List ℕ) (i : ℕ) (whole : Block → Block) → length ss ≤ i
      → ((rest : Block) → before out (binds_code sites p (drop i ss) rest) ≡ whole rest) → (rest : Block) → before out rest ≡ whole rest
  binds_done out ss i whole h inv rest = ap (before out) (sym (at_drop_all (λ l. binds_code sites p l rest) ss i h)) ∙ inv rest
