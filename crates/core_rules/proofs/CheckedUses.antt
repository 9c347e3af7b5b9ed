-- Checks of one use after another.
use Rattle.std.proofs.Common.{◌≡◌, ℕ, ◌+◌, ◌<◌, All, List, [], ◌∷◌, ◌++◌, length, drop, get_or, Result, OnOk, refl, sym, ap, subst, ◌∙◌, inl, inr, ◌⊎◌, arith}
use Rattle.std.specs.List.{flat_map}
use Rattle.std.proofs.lemmas.List.{at_drop_more}
use Rattle.std.proofs.lemmas.List.Elements.{All-nil, All-cons, All-head, All-append}
use Rattle.std.proofs.lemmas.Grind.{common_steps}
use Rattle.core_syntax.specs.declared.syntax.Def.{Def}
use Rattle.core_syntax.specs.declared.syntax.Error.{Error}
use Rattle.core_syntax.specs.SyntaxViews.{definition_view, definition_views}
use Rattle.model.specs.lists.TermTable.{rule_trees}
use Rattle.core_syntax.specs.NotedErrors.{NotesMore}
use Rattle.core_syntax.proofs.NotedErrors.{both}
use Rattle.core_rules.specs.Constructors.{uses_of_rule, uses_of_definition}
use Rattle.core_typed.specs.Elaborating.{Checks}
use Rattle.core_types.proofs.RightTypes.{all_left, all_right}
use Rattle.core_rules.proofs.PatternUsing.{checks_both}

pub on_then : {A B : Type 0} (r : Result A B) (P Q : Type 0) → (P → Q) → OnOk r P → OnOk r Q
on_then r P Q f h = grind (arith, common_steps)

-- the same fact in other words
checks_as : (P Q : Type 0) (old new : List Error) → (P → Q) → (Q → P) → Checks old new P → Checks old new Q
checks_as P Q old new f g h = grind (arith, common_steps)

module _ {X : Type 0} (P : X → Type 0) where
  -- some are left to be checked
  abbrev pub CheckedAt : List X → List X → List Error → List Error → Type 0
  CheckedAt all rest old new = ((new ≡ old) × (All P rest → All P all) × (All P all → All P rest)) ⊎ (NotesMore old new × (All P all → ⊥))

  pub checked_first : (all : List X) (es : List Error) → CheckedAt all all es es
  checked_first all es = inl (refl, λ h. h, λ h. h)

  pub checked_next : (all left xs rest : List X) (old mid new : List Error) → left ≡ xs ++ rest → CheckedAt all left old mid → Checks mid new (All P xs) → CheckedAt all rest old new
  checked_next all left xs rest old mid new split (inl a) (inl c) =
      inl (c.0 ∙ a.0, λ h. a.1 (subst (All P) (sym split) (All-append P xs rest c.1 h)), λ h. all_right P xs rest (subst (All P) split (a.2 h)))
  checked_next all left xs rest old mid new split (inl a) (inr c) = inr (subst (λ es. NotesMore es new) a.0 c.0, λ h. c.1 (all_left P xs rest (subst (All P) split (a.2 h))))
  checked_next all left xs rest old mid new split (inr a) (inl c) = inr (subst (NotesMore old) (sym c.0) a.0, a.1)
  checked_next all left xs rest old mid new split (inr a) (inr c) = inr (both old mid new a.0 c.0, a.1)

  pub checked_last : (all : List X) (old new : List Error) → CheckedAt all [] old new → Checks old new (All P all)
  checked_last all old new h = grind (arith, common_steps)

  -- a check of one
  pub checks_one : (x : X) (old new : List Error) → Checks old new (P x) → Checks old new (All P (x ∷ []))
  checks_one x old new = checks_as (P x) (All P (x ∷ [])) old new (λ h. All-cons P x [] h (All-nil P)) (All-head P x [])

  -- checks of some, then of others
  pub checks_all : (xs ys : List X) (old mid new : List Error) → Checks old mid (All P xs) → Checks mid new (All P ys) → Checks old new (All P (xs ++ ys))
  checks_all xs ys old mid new a b =
      checks_as (All P xs × All P ys) (All P (xs ++ ys)) old new (λ h. All-append P xs ys h.0 h.1) (λ h. (all_left P xs ys h, all_right P xs ys h)) (checks_both old mid new (All P xs) (All P ys) a b)

-- what is left at a place of a list
pub left_at : {A X : Type 0} (f : A → List X) (g : List A → List X) → ((a : A) (rest : List A) → g (a ∷ rest) ≡ f a ++ g rest) → (all : List A) (i : ℕ) (a : A) → i < length all → a ≡ get_or all i a → g (drop i all) ≡ f a ++ g (drop (i + 1) all)
left_at f g law all i a within at = at_drop_more g all i a within ∙ ap (λ x. g (x ∷ drop (i + 1) all)) (sym at) ∙ law a (drop (i + 1) all)

pub uses_split : (d : Def) (rest : List Def) → flat_map uses_of_rule (rule_trees (definition_views (d ∷ rest))) ≡ uses_of_definition (definition_view d) ++ flat_map uses_of_rule (rule_trees (definition_views rest))
uses_split d rest = grind (arith, common_steps)
