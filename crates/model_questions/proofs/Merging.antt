-- Cases of one sort as one describe the same.
use Rattle.std.proofs.Common.{◌≡◌, Bool, true, false, List, [], ◌∷◌, Option, Some, None, cond, refl, ap, ◌∙◌, subst, inl, inr, arith}
use Rattle.std.proofs.lemmas.Grind.{common_steps}
use Rattle.std.proofs.lemmas.Bool.{eqb-true}
use Rattle.model.specs.lists.Tables.{TypeEntry}
use Rattle.model.proofs.Elements.{In, or_split, some_is, none_some}
use Rattle.laws_specs.specs.Words.{Denoted, a_truth}
use Rattle.laws_specs.specs.Specs.{Specs, Unknowns}
use Rattle.model_questions.specs.Formulas.{Place, either_integer, Fact, Model, is_so, both_of, one_of, none_of}
use Rattle.model_questions.specs.Forms.{Form, a_fact, an_integer_by, a_word_by, Case, Cases, either_of, merged_or, merged_in, merged_all, merged}
use Rattle.model_questions.proofs.FactsSo.{or_false, none_so, both_so, one_so, one_left, one_right}
use Rattle.model_questions.proofs.Described.{Describes, IsTaken}
use Rattle.model_questions.proofs.Standing.{model_of, stands, Fits}

module _ (types : List TypeEntry) (specs : Specs) (vs : Place → Denoted) (u : Unknowns) where
  abbrev m : Model
  m = model_of vs u

  abbrev pub IsSound : Option Denoted → Case Form → Type 0
  IsSound o c = is_so m c.guard ≡ true → (o ≡ Some (stands vs u c.gives)) × Fits types specs vs c.gives

  -- a case that stands for two is sound if both are, and taken where one is
  record IsEither (o : Option Denoted) (c d e : Case Form) : Type 0 where
    sound : IsSound o c → IsSound o d → IsSound o e
    left : is_so m c.guard ≡ true → is_so m e.guard ≡ true
    right : is_so m d.guard ≡ true → is_so m e.guard ≡ true

  module _ (o : Option Denoted) (g h : Fact) where
    abbrev of : Fact → Form → Case Form
    of k f = record { guard = k; gives = f }

    either_by : (a b e : Form) → (is_so m g ≡ true → stands vs u e ≡ stands vs u a) → (is_so m g ≡ false → stands vs u e ≡ stands vs u b) → Fits types specs vs e
        → IsEither o (of g a) (of h b) (of (one_of g h) e)
    either_by a b e first second fits = grind (arith, common_steps, one_left, one_right, stands, or_split, one_so)

    fact_either : (a b : Fact) (c : Bool) → is_so m g ≡ c → is_so m (one_of (both_of g a) (both_of (none_of g) b)) ≡ cond c (is_so m a) (is_so m b)
    fact_either a b c q = grind (arith, common_steps, one_so, both_so, none_so, or_false)

    either_is : (a b : Form) (e : Case Form) → either_of g h a b ≡ Some e → IsEither o (of g a) (of h b) e
    either_is (a_fact a) (a_fact b) e q =
        subst (λ (x : Case Form). IsEither o (of g (a_fact a)) (of h (a_fact b)) x) (some_is (of (one_of g h) (a_fact (one_of (both_of g a) (both_of (none_of g) b)))) e q)
        (either_by (a_fact a) (a_fact b) (a_fact (one_of (both_of g a) (both_of (none_of g) b))) (λ p. ap a_truth (fact_either a b true p)) (λ p. ap a_truth (fact_either a b false p)) tt)
    either_is (an_integer_by a) (an_integer_by b) e q = grind (arith, common_steps, either_by (an_integer_by a) (an_integer_by b) (an_integer_by (either_integer g a b)), some_is, either_by)
    either_is (a_word_by w a) (a_word_by v b) e q = grind (arith, common_steps, eqb-true, some_is, either_by, none_some)
    either_is a b e q = absurd (none_some e q)

  module _ (o : Option Denoted) where
    merged_in_sound : (c : Case Form) (ds : List (Case Form)) → IsSound o c → ((d : Case Form) → In ds d → IsSound o d) → (e : Case Form) → In (merged_in c ds) e → IsSound o e
    merged_in_sound c (d ∷ ds) s t e i = by (either_of c.guard d.guard c.gives d.gives) refl i (merged_in_sound c ds s (λ x j. t x (inr j)) e)
      where
        by : (v : Option (Case Form)) → either_of c.guard d.guard c.gives d.gives ≡ v → In (merged_or v d ds (merged_in c ds)) e → (In (merged_in c ds) e → IsSound o e) → IsSound o e
        by (Some k) q (inl w) more = subst (λ (x : Case Form). IsSound o x) w ((either_is o c.guard d.guard c.gives d.gives k q).sound s (t d (inl refl)))
        by (Some k) q (inr j) more = t e (inr j)
        by None q (inl w) more = t e (inl w)
        by None q (inr j) more = more j
    merged_in_sound c ds s t e i = grind (arith, common_steps)

    merged_in_taken : (c : Case Form) (ds : List (Case Form)) → IsTaken m (c ∷ ds) → IsTaken m (merged_in c ds)
    merged_in_taken c [] k = k
    merged_in_taken c (d ∷ ds) k = by (either_of c.guard d.guard c.gives d.gives) refl k (merged_in_taken c ds)
      where
        guard_of : (x y : Case Form) → x ≡ y → is_so m y.guard ≡ true → is_so m x.guard ≡ true
        guard_of x y q p = ap (λ (z : Case Form). is_so m z.guard) q ∙ p

        by : (v : Option (Case Form)) → either_of c.guard d.guard c.gives d.gives ≡ v → IsTaken m (c ∷ (d ∷ ds)) → (IsTaken m (c ∷ ds) → IsTaken m (merged_in c ds))
            → IsTaken m (merged_or v d ds (merged_in c ds))
        by (Some e) q (x, inl w, p) more = (e, inl refl, (either_is o c.guard d.guard c.gives d.gives e q).left (guard_of c x w p))
        by (Some e) q (x, inr (inl w), p) more = (e, inl refl, (either_is o c.guard d.guard c.gives d.gives e q).right (guard_of d x w p))
        by (Some e) q (x, inr (inr j), p) more = (x, inr j, p)
        by None q (x, inl w, p) more = let k = more (x, inl w, p) in (k.0, inr k.1, k.2)
        by None q (x, inr (inl w), p) more = (x, inl w, p)
        by None q (x, inr (inr j), p) more = let k = more (x, inr j, p) in (k.0, inr k.1, k.2)

    merged_all_sound : (cs : List (Case Form)) → ((c : Case Form) → In cs c → IsSound o c) → (e : Case Form) → In (merged_all cs) e → IsSound o e
    merged_all_sound [] s e i = absurd i
    merged_all_sound (c ∷ cs) s e i = merged_in_sound c (merged_all cs) (s c (inl refl)) (merged_all_sound cs (λ x j. s x (inr j))) e i

    merged_all_taken : (cs : List (Case Form)) → IsTaken m cs → IsTaken m (merged_all cs)
    merged_all_taken (c ∷ cs) (x, inl w, p) = merged_in_taken c (merged_all cs) (x, inl w, p)
    merged_all_taken (c ∷ cs) (x, inr j, p) = let k = merged_all_taken cs (x, j, p) in merged_in_taken c (merged_all cs) (k.0, inr k.1, k.2)
    merged_all_taken [] k = absurd k.1

    pub merged_described : (cs : Cases Form) → Describes m Form Denoted (stands vs u) (Fits types specs vs) cs o → Describes m Form Denoted (stands vs u) (Fits types specs vs) (merged cs) o
    merged_described cs d = grind (arith, common_steps, merged_all_sound, merged_all_taken)
