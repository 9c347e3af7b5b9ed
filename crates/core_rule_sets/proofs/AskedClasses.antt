-- What the sites of a class are asked, one site after another.
use Rattle.std.proofs.Common.{◌≡◌, ℕ, Bool, if◌then◌else◌, List, [], ◌∷◌, Option, Some, None, refl, ap, ◌∙◌, arith}
use Rattle.std.specs.Prelude.{nat_eq}
use Rattle.std.proofs.lemmas.Grind.{common_steps}
use Rattle.model.specs.sites.Sites.{Constraint}
use Rattle.core_rule_sets.specs.Verdicts.{asked_in, first_other, with_asked}

-- what a class is asked once some sites were met, and then others
abbrev pub asked_from : (ℕ → ℕ) → ℕ → Option (Constraint × Option Constraint) → List (ℕ × Constraint) → Option (Constraint × Option Constraint)
asked_from class k had [] = had
asked_from class k had (a ∷ rest) = asked_from class k (if nat_eq (class a.0) k then Some (with_asked had a.1) else had) rest

either_way : {X : Type 0} (b : Bool) (x : X) → (if b then x else x) ≡ x
either_way b x = grind (arith, common_steps)

module _ (class : ℕ → ℕ) where
  -- two things that differ are all that is kept
  kept : (k : ℕ) (f o : Constraint) (rest : List (ℕ × Constraint)) → asked_from class k (Some (f, Some o)) rest ≡ Some (f, Some o)
  kept k f o [] = refl
  kept k f o (b ∷ rest) = ap (λ h. asked_from class k h rest) (either_way (nat_eq (class b.0) k) (Some (f, Some o))) ∙ kept k f o rest

  -- after the first site of a class comes the first that differs
  next_other : (a : ℕ × Constraint) (rest : List (ℕ × Constraint)) → asked_from class (class a.0) (Some (a.1, None)) rest ≡ Some (a.1, first_other class a rest)
  next_other a [] = refl
  next_other a (b ∷ rest) = grind (arith, common_steps, next_other a rest, kept (class a.0) a.1 b.1 rest)

  pub asked_whole : (k : ℕ) (all : List (ℕ × Constraint)) → asked_from class k None all ≡ asked_in class k all
  asked_whole k [] = refl
  asked_whole k (a ∷ rest) = grind (arith, common_steps, asked_whole k rest, next_other a rest)
