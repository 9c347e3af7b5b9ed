-- The first conflict of classes: that of the first site whose class has one, by what its class is asked.
use Rattle.std.proofs.Common.{◌≡◌, ◌⊎◌, ℕ, false, not, List, [], ◌∷◌, ◌++◌, Option, Some, None, refl, sym, ap, ◌∙◌, subst, inl, inr, eqb-true, eq-eqb, arith}
use Rattle.std.specs.Prelude.{nat_eq}
use Rattle.std.proofs.lemmas.Bool.{cases_Bool, cond-true, and_from, false≢true}
use Rattle.std.proofs.Math.Bool.{and-false}
use Rattle.std.proofs.lemmas.Grind.{common_steps}
use Rattle.model.specs.sites.Sites.{Constraint}
use Rattle.model.specs.visits.Demands.{constraint_eq}
use Rattle.model.specs.sites.Closure.{Unreachability, conflict, first_filled}
use Rattle.model.proofs.Elements.{In, none_some, in_right, in_either}
use Rattle.model.proofs.SameSites.{constraint_means, same_constraint}
use Rattle.model.proofs.FewElements.{not_empty}
use Rattle.core_rule_sets.specs.Verdicts.{asked_in, conflict_asked, conflict_in, differ_in, first_other}

-- the first conflict of the classes of some sites
abbrev pub conflict_from : (ℕ → ℕ) → List (ℕ × Constraint) → List (ℕ × Constraint) → List Unreachability
conflict_from class all [] = []
conflict_from class all (a ∷ rest) = first_filled (conflict_asked (asked_in class (class a.0) all)) (conflict_from class all rest)

module _ (class : ℕ → ℕ) where
  -- sites of a class are asked one thing
  abbrev pub Agree : ℕ × Constraint → List (ℕ × Constraint) → Type 0
  Agree a bs = (b : ℕ × Constraint) → In bs b → class b.0 ≡ class a.0 → a.1 ≡ b.1

  pub no_other : (a : ℕ × Constraint) (bs : List (ℕ × Constraint)) → Agree a bs → first_other class a bs ≡ None
  no_other a [] h = refl
  no_other a (b ∷ bs) h = grind (arith, common_steps, no_other a bs (λ c i. h c (inr i)), same_constraint a.1 b.1)

  pub agree_where : (a : ℕ × Constraint) (bs : List (ℕ × Constraint)) → first_other class a bs ≡ None → Agree a bs
  agree_where a [] e b i c = absurd i
  agree_where a (b ∷ bs) e x i c =
      elim (cases_Bool (differ_in class a b)) [
        | inl t ↦ absurd (none_some b.1 (sym e ∙ cond-true (differ_in class a b) (Some b.1) (first_other class a bs) t))
        | inr f ↦ grind (arith, common_steps, same f, agree_where a bs)
      ]
    where
      same : differ_in class a b ≡ false → class b.0 ≡ class a.0 → a.1 ≡ b.1
      same f h =
          elim (cases_Bool (constraint_eq a.1 b.1)) [
            | inl t ↦ constraint_means a.1 b.1 t
            | inr g ↦ absurd (false≢true (sym f ∙ and_from (nat_eq (class b.0) (class a.0)) (not (constraint_eq a.1 b.1)) (eq-eqb (class b.0) (class a.0) h) (ap not g)))
          ]

  none_asked : (c : Constraint) (o : Option Constraint) → conflict_asked (Some (c, o)) ≡ [] → o ≡ None
  none_asked c o e = grind (arith, common_steps, not_empty)

  -- where a class has no conflict its sites are asked one thing
  one_asked : (k : ℕ) (all : List (ℕ × Constraint)) → conflict_asked (asked_in class k all) ≡ [] → (a b : ℕ × Constraint) → In all a → In all b → class a.0 ≡ k → class b.0 ≡ k → a.1 ≡ b.1
  one_asked k [] e a b i j c d = absurd i
  one_asked k (x ∷ rest) e a b i j c d = grind (arith, common_steps, one_asked k rest, agree_where x rest, none_asked x.1 (first_other class x rest))

  -- sites of other classes before don't matter
  asked_after : (k : ℕ) (pre rest : List (ℕ × Constraint)) → ((x : ℕ × Constraint) → In pre x → nat_eq (class x.0) k ≡ false) → asked_in class k (pre ++ rest) ≡ asked_in class k rest
  asked_after k [] rest h = refl
  asked_after k (x ∷ pre) rest h = grind (arith, common_steps, asked_after k pre rest (λ y i. h y (inr i)))

  other_after : (a : ℕ × Constraint) (pre rest : List (ℕ × Constraint)) → ((x : ℕ × Constraint) → In pre x → nat_eq (class x.0) (class a.0) ≡ false) → first_other class a (pre ++ rest) ≡ first_other class a rest
  other_after a [] rest h = refl
  other_after a (x ∷ pre) rest h = grind (arith, common_steps, other_after a pre rest (λ y i. h y (inr i)))

  not_itself : (a : ℕ × Constraint) (rest : List (ℕ × Constraint)) → first_other class a (a ∷ rest) ≡ first_other class a rest
  not_itself a rest = grind (arith, common_steps, same_constraint a.1 a.1 refl, and-false (nat_eq (class a.0) (class a.0)))

  asked_here : (a : ℕ × Constraint) (rest : List (ℕ × Constraint)) → asked_in class (class a.0) (a ∷ rest) ≡ Some (a.1, first_other class a rest)
  asked_here a rest = cond-true (nat_eq (class a.0) (class a.0)) (Some (a.1, first_other class a rest)) (asked_in class (class a.0) rest) (eq-eqb (class a.0) (class a.0) refl)

  -- a site of the class stands before, or none does
  met_before : (k : ℕ) (pre : List (ℕ × Constraint)) → ((x : ℕ × Constraint) × In pre x × (class x.0 ≡ k)) ⊎ ((x : ℕ × Constraint) → In pre x → nat_eq (class x.0) k ≡ false)
  met_before k [] = inr (λ x i. absurd i)
  met_before k (x ∷ pre) =
      elim (cases_Bool (nat_eq (class x.0) k)) [
        | inl t ↦ inl (x, inl refl, eqb-true (class x.0) k t)
        | inr f ↦ elim (met_before k pre) [ inl m ↦ inl (m.0, inr m.1, m.2) | inr n ↦ inr (either f n) ]
      ]
    where
      either : nat_eq (class x.0) k ≡ false → ((y : ℕ × Constraint) → In pre y → nat_eq (class y.0) k ≡ false) → (y : ℕ × Constraint) → In (x ∷ pre) y → nat_eq (class y.0) k ≡ false
      either f n y h = grind (arith, common_steps)

  joined_on : (pre rest : List (ℕ × Constraint)) (a : ℕ × Constraint) → (pre ++ a ∷ rest) ≡ ((pre ++ a ∷ []) ++ rest)
  joined_on [] rest a = refl
  joined_on (x ∷ pre) rest a = ap (λ l. x ∷ l) (joined_on pre rest a)

  -- no class of these sites has a conflict
  abbrev Quiet : List (ℕ × Constraint) → List (ℕ × Constraint) → Type 0
  Quiet all pre = (x : ℕ × Constraint) → In pre x → conflict_asked (asked_in class (class x.0) all) ≡ []

  quiet_more : (all pre : List (ℕ × Constraint)) (a : ℕ × Constraint) → Quiet all pre → conflict_asked (asked_in class (class a.0) all) ≡ [] → Quiet all (pre ++ a ∷ [])
  quiet_more all pre a q e x i = grind (arith, common_steps, in_either pre (a ∷ []) x i)

  abbrev found_at : ℕ × Constraint → List Unreachability → Option Constraint → List Unreachability
  found_at a rest o = elim o as (λ _. List Unreachability) [ None ↦ rest | Some b ↦ conflict a.1 b ∷ [] ]

  from_is : (all pre list : List (ℕ × Constraint)) → all ≡ pre ++ list → Quiet all pre → conflict_from class all list ≡ conflict_in class all list
  from_is all pre [] e q = refl
  from_is all pre (a ∷ rest) e q =
      let later : conflict_asked (asked_in class (class a.0) all) ≡ [] → conflict_from class all rest ≡ conflict_in class all rest =
      λ quiet. from_is all (pre ++ a ∷ []) rest (e ∙ joined_on pre rest a) (quiet_more all pre a q quiet) in
      elim (met_before (class a.0) pre) [
        | inl m ↦
            let quiet = subst (λ k. conflict_asked (asked_in class k all) ≡ []) m.2 (q m.0 m.1) in
            let here : In all a = subst (λ l. In l a) (sym e) (in_right pre (a ∷ rest) a (inl refl)) in
            go_on later quiet (no_other a all (agreed quiet here))
        | inr n ↦
            by later (first_other class a rest)
            (ap (asked_in class (class a.0)) e ∙ asked_after (class a.0) pre (a ∷ rest) n ∙ asked_here a rest)
            (ap (first_other class a) e ∙ other_after a pre (a ∷ rest) n ∙ not_itself a rest)
      ]
    where
      agreed : conflict_asked (asked_in class (class a.0) all) ≡ [] → In all a → Agree a all
      agreed quiet here b i h = one_asked (class a.0) all quiet a b here i refl h

      go_on : (conflict_asked (asked_in class (class a.0) all) ≡ [] → conflict_from class all rest ≡ conflict_in class all rest) → conflict_asked (asked_in class (class a.0) all) ≡ [] → first_other class a all ≡ None → conflict_from class all (a ∷ rest) ≡ conflict_in class all (a ∷ rest)
      go_on later quiet none = grind (arith, common_steps)

      by : (conflict_asked (asked_in class (class a.0) all) ≡ [] → conflict_from class all rest ≡ conflict_in class all rest) → (o : Option Constraint) → asked_in class (class a.0) all ≡ Some (a.1, o) → first_other class a all ≡ o → conflict_from class all (a ∷ rest) ≡ conflict_in class all (a ∷ rest)
      by later None asked other = go_on later (ap conflict_asked asked) other
      by later (Some b) asked other = grind (arith, common_steps)

  pub conflict_is_first : (all : List (ℕ × Constraint)) → conflict_from class all all ≡ conflict_in class all all
  conflict_is_first all = from_is all [] all refl (λ x i. absurd i)

  found_none : (a : ℕ × Constraint) (rest : List Unreachability) (o : Option Constraint) → found_at a rest o ≡ [] → (o ≡ None) × (rest ≡ [])
  found_none a rest o e = grind (arith, common_steps, not_empty)

  -- where there is none, no site's class is asked another thing
  pub none_differs : (all list : List (ℕ × Constraint)) → conflict_in class all list ≡ [] → (a : ℕ × Constraint) → In list a → first_other class a all ≡ None
  none_differs all [] e a i = absurd i
  none_differs all (x ∷ list) e a (inl p) = grind (arith, common_steps, found_none x (conflict_in class all list) (first_other class x all) e)
  none_differs all (x ∷ list) e a (inr j) = none_differs all list (found_none x (conflict_in class all list) (first_other class x all) e).1 a j
