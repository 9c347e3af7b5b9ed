-- The conditions of the samples: those that are valid, and valuations that refute the others.
use Rattle.std.proofs.Common.{◌≡◌, Bool, true, false, List, [], ◌∷◌, Option, Some, None, All, ◌++◌, refl, sym, ap, subst, ◌∙◌, inl, inr, arith}
use Rattle.std.proofs.lemmas.Grind.{common_steps}
use Rattle.std.proofs.lemmas.Bool.{and_parts, false≢true}
use Rattle.std.proofs.lemmas.List.Elements.{All-nil, All-cons, All-contains}
use Rattle.model.specs.rules.Meaning.{look}
use Rattle.model.specs.rules.Outcome.{then_option}
use Rattle.model.specs.rules.Program.{Program}
use Rattle.model.specs.rules.Typed.{TypedExpr}
use Rattle.model.specs.sites.Sites.{SiteTerm, argument, constructor_call, pick_of, SiteTerms, no_site_term, site_term_and}
use Rattle.model.specs.visits.Demands.{site_term_eq}
use Rattle.model.proofs.Elements.{in_from_contains, contains_from_in, some_is, none_some}
use Rattle.model.proofs.Options.{then_some}
use Rattle.model.proofs.SameSites.{term_means}
use Rattle.laws_specs.specs.Words.{Denoted, a_truth, a_word, DenotedList, no_denoted, denoted_and, equals}
use Rattle.laws_specs.specs.Specs.{SpecExpr, its_argument, its_result, the_same, operation, Specs, IsSaid, IsRequired, IsProvided, no_unknown}
use Rattle.laws_specs.specs.Conditions.{ToldContent, told, told_just, as_denoted, result_as, are_of_entries, IsAnsweredAsSaid, IsTypedAs, Valuation, denoted_at, denoted_at_each, is_told_formed, IsHeldAs, IsAssumed, AreMade, condition}
use Rattle.laws_specs.specs.Samples.{of_two, two, byte, is_sum, x, adding, noting, rule_of, program_with, specs_with, doubled, below_itself, IsRight, SumsAreRight, CallsAreRequired}

-- 1. valuations that are listed
abbrev pub listed_as : List (SiteTerm × ToldContent) → Valuation
listed_as entries s = look (λ k. site_term_eq k s) entries

abbrev pub EachHeld : (SiteTerm → ToldContent → Type 0) → List (SiteTerm × ToldContent) → Type 0
EachHeld P [] = Unit {0}
EachHeld P (e ∷ entries) = P e.0 e.1 × EachHeld P entries

pub each_held : (P : SiteTerm → ToldContent → Type 0) (entries : List (SiteTerm × ToldContent)) → EachHeld P entries → (s : SiteTerm) (h : ToldContent) → listed_as entries s ≡ Some h → P s h
each_held P [] a s h e = absurd (none_some h e)
each_held P (y ∷ entries) a s h e = grind (arith, common_steps, each_held P entries a.1 s h, term_means y.0 s, some_is y.1 h)

-- where no answer of a multi call is listed
pub no_picks : (specs : Specs) (f : Valuation) → ((s : SiteTerm) (h : ToldContent) → f (pick_of s) ≡ Some h → ⊥) → (s : SiteTerm) → IsAnsweredAsSaid specs f s (pick_of s)
no_picks specs f n h = grind arith

-- 2. what is provided, as one fact
pub only_one : {X : Type 0} (P : X → Type 0) (y : X) → All P (y ∷ []) → P y
only_one P y h = All-contains P (y ∷ []) y h (contains_from_in (y ∷ []) y (inl refl))

pub just_one : {X : Type 0} (P : X → Type 0) (y : X) → P y → All P (y ∷ [])
just_one P y h = All-cons P y [] h (All-nil P)

-- 3. (add x x)
pub told_is : (o : Option ToldContent) (a : Denoted) → then_option o as_denoted ≡ Some a → o ≡ Some (told a)
told_is o a e = grind (arith, common_steps, none_some, some_is)

pub part_is : (u v w : Denoted) → Some u ≡ Some v → told w ≡ told v → w ≡ u
part_is u v w e f = cc

abbrev pub sum_args : SiteTerms
sum_args = site_term_and (argument 0) (site_term_and (argument 0) no_site_term)

abbrev pub sum_call : SiteTerm
sum_call = constructor_call 1 sum_args 0

abbrev note_call : SiteTerm
note_call = constructor_call 2 (site_term_and (argument 0) no_site_term) 1

-- no impure call is made
pub none_first : (before after : List SiteTerm) (u : SiteTerm) → [] ≡ before ++ u ∷ after → ⊥
none_first [] after u e = cc
none_first (y ∷ before) after u e = cc

abbrev sum_specs : Specs
sum_specs = specs_with (doubled ∷ []) [] []

abbrev Assumed : TypedExpr → Specs → DenotedList → Valuation → Type 0
Assumed rhs specs args f = IsAssumed (program_with rhs) specs (condition (program_with rhs) (rule_of rhs)) args f

-- the sum of the argument with itself is what is provided
sum_provided : (b : Denoted) (f : Valuation) → Assumed (adding x x) sum_specs (denoted_and b no_denoted) f → (h : ToldContent) (y : Denoted) → f sum_call ≡ Some h → result_as h ≡ Some y
    → IsProvided sum_specs 0 (denoted_and b no_denoted) y
sum_provided b f a h y e q =
    let c = a.held sum_call h e in
    let first = then_some (denoted_at f (argument 0)) (λ z. then_option (denoted_at_each f (site_term_and (argument 0) no_site_term)) (λ zs. Some (denoted_and z zs))) c.0 c.1 in
    let part = a.held (argument 0) (told first.0) (told_is (f (argument 0)) first.0 first.1) in
    let same : first.0 ≡ b = part_is b part.part first.0 part.there part.held in
    let both : denoted_at_each f sum_args ≡ Some (two b b) = ap (λ o. then_option o (λ z. then_option (then_option o (λ w. Some (denoted_and w no_denoted))) (λ zs. Some (denoted_and z zs)))) (first.1 ∙ ap Some same) in
    let said = a.calls sum_call (contains_from_in (argument 0 ∷ (sum_call ∷ [])) sum_call (inr (inl refl))) refl (two b b) h both e (All-nil (IsSaid no_unknown (two b b) None)) y q in
    just_one (IsSaid no_unknown (denoted_and b no_denoted) (Some y)) doubled (only_one (IsSaid no_unknown (two b b) (Some y)) (is_sum (its_argument 0) (its_argument 1)) said)

pub sum_right : IsRight (doubled ∷ []) [] [] (adding x x)
sum_right (denoted_and b no_denoted) f a = grind (arith, common_steps, sum_provided b f a, sum_provided, none_first)
sum_right h f a = grind (arith, common_steps, and_parts)

-- 4. an argument alone, which is 1
abbrev pub one_argument : DenotedList
one_argument = denoted_and (byte 1) no_denoted

abbrev argument_alone : List (SiteTerm × ToldContent)
argument_alone = (argument 0, told (byte 1)) ∷ []

abbrev pub alone : Valuation
alone = listed_as argument_alone

pub alone_held : (specs : Specs) (s : SiteTerm) (h : ToldContent) → alone s ≡ Some h → IsHeldAs specs one_argument alone s h
alone_held specs = each_held (IsHeldAs specs one_argument alone) argument_alone (record { part = byte 1; there = refl; held = refl }, tt)

pub alone_formed : (s : SiteTerm) (h : ToldContent) → alone s ≡ Some h → is_told_formed h ≡ true
alone_formed = each_held (λ s h. is_told_formed h ≡ true) argument_alone (refl, tt)

pub truths_same : (a b : Bool) → Some (a_truth a) ≡ Some (a_truth b) → a ≡ b
truths_same a b e = cc

argument_assumed : (provided : List SpecExpr) → Assumed x (specs_with provided [] []) one_argument alone
argument_assumed provided = grind (arith, common_steps, none_some, alone_held, alone_formed, in_from_contains, no_picks)

pub none_made : (p : Program) (specs : Specs) (f : Valuation) → AreMade p specs f []
none_made p specs f u i = absurd (in_from_contains [] u i)

argument_provided : (e : SpecExpr) → IsRight (e ∷ []) [] [] x → IsSaid no_unknown one_argument (Some (byte 1)) e
argument_provided e right =
    let shown = right one_argument alone (argument_assumed (e ∷ [])) in
    only_one (IsSaid no_unknown one_argument (Some (byte 1))) e (shown.provides (told (byte 1)) (byte 1) (none_made (program_with x) (specs_with (e ∷ []) [] []) alone) refl refl)

argument_wrong : IsRight (doubled ∷ []) [] [] x → ⊥
argument_wrong right = false≢true (truths_same false true (argument_provided doubled right))

abbrev another_width : SpecExpr
another_width = operation equals (of_two its_result (the_same (a_word 16 1)))

width_wrong : IsRight (another_width ∷ []) [] [] x → ⊥
width_wrong right = none_some (a_truth true) (argument_provided another_width right)

-- 5. a call whose require fails
abbrev failing : Specs
failing = specs_with (doubled ∷ []) (below_itself ∷ []) []

abbrev with_call : List (SiteTerm × ToldContent)
with_call = (argument 0, told (byte 1)) ∷ ((sum_call, told (byte 7)) ∷ [])

abbrev called : Valuation
called = listed_as with_call

never_below : (xs : DenotedList) → Some (two (byte 1) (byte 1)) ≡ Some xs → IsRequired failing 1 xs → ⊥
never_below xs e r = false≢true (truths_same false true (only_one (IsSaid no_unknown (two (byte 1) (byte 1)) None) below_itself (subst (IsRequired failing 1) (sym (some_is (two (byte 1) (byte 1)) xs e)) r)))

not_wrapped : (y : Denoted) (g : ToldContent) → told y ≡ told_just g → (z : Denoted) × (as_denoted g ≡ Some z)
not_wrapped y g w = cc

call_typed : (h : ToldContent) → Some (told (byte 7)) ≡ Some h → IsTypedAs (program_with (adding x x)) failing sum_call h
call_typed h e = subst (IsTypedAs (program_with (adding x x)) failing sum_call) (some_is (told (byte 7)) h e) (λ y q. subst (λ z. are_of_entries (program_with (adding x x)) failing (1 ∷ []) (denoted_and z no_denoted) ≡ true) (some_is (byte 7) y q) refl, λ g w. not_wrapped (byte 7) g w)

call_assumed : Assumed (adding x x) failing one_argument called
call_assumed = record {
  arguments = refl;
  formed_args = refl;
  required = All-nil (IsSaid no_unknown one_argument None);
  unknowns = λ g s xs e sorted formed. absurd (none_some s e);
  held = each_held (IsHeldAs failing one_argument called) with_call (record { part = byte 1; there = refl; held = refl }, ((two (byte 1) (byte 1), refl), tt));
  formed = each_held (λ s h. is_told_formed h ≡ true) with_call (refl, (refl, tt));
  constraints = λ s k i. absurd (in_from_contains [] (s, k) i);
  equalities = λ a b i. absurd (in_from_contains [] (a, b) i);
  calls = λ s i e. elim (in_from_contains (argument 0 ∷ (sum_call ∷ [])) s i) [
    | inl q ↦ subst (λ z. IsAnsweredAsSaid failing called z z) q tt
    | inr j ↦ elim j [ inl q ↦ subst (λ z. IsAnsweredAsSaid failing called z z) q (λ xs h there answer required. absurd (never_below xs there required)) | inr n ↦ absurd n ]
  ];
  typed = grind (arith, common_steps, in_from_contains, call_typed);
  picks = λ s i e. no_picks failing called (λ u h there. none_some h there) s;
  typed_picks = λ s h i e there. absurd (none_some h there);
}

failing_wrong : IsRight (doubled ∷ []) (below_itself ∷ []) [] (adding x x) → ⊥
failing_wrong right =
    let shown = right one_argument called call_assumed in
    false≢true (truths_same false true (only_one (IsSaid no_unknown one_argument (Some (byte 7))) doubled (shown.provides (told (byte 7)) (byte 7) (none_made (program_with (adding x x)) failing called) refl refl)))

pub sums_are_right_lem : SumsAreRight
sums_are_right_lem = (sum_right, argument_wrong, failing_wrong)

-- 6. an impure call
note_right : IsRight [] [] [] (noting x)
note_right args f a = grind (arith, none_first)

abbrev noted : Specs
noted = specs_with [] [] (below_itself ∷ [])

note_assumed : Assumed (noting x) noted one_argument alone
note_assumed = grind (arith, common_steps, none_some, alone_held, alone_formed, in_from_contains, no_picks)

note_wrong : IsRight [] [] (below_itself ∷ []) (noting x) → ⊥
note_wrong right =
    let shown = right one_argument alone note_assumed in
    false≢true (truths_same false true (only_one (IsSaid no_unknown one_argument None) below_itself
    (shown.requires [] [] note_call 2 1 (site_term_and (argument 0) no_site_term) one_argument refl (none_made (program_with (noting x)) noted alone) refl refl)))

pub calls_are_required_lem : CallsAreRequired
calls_are_required_lem = (note_right, note_wrong, width_wrong)
