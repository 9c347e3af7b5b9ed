-- The facts that steps add, and the questions that follow of them.
use Rattle.std.proofs.Common.{◌≡◌, ◌≢◌, ℕ, zero, suc, ◌-◌, ◌≤◌, true, false, List, [], ◌∷◌, ◌++◌, drop, get_or, length, take, Option, Some, None, slice_get, if◌then◌else◌, refl, sym, ap, ◌∙◌, arith}
use Rattle.std.specs.Bool.{◌==◌}
use Rattle.std.specs.Option.{option_map}
use Rattle.std.proofs.lemmas.Bool.{false≢true, ne_eqb}
use Rattle.std.proofs.lemmas.List.{append_assoc, map-append, take_all}
use Rattle.core_types.specs.Builtin.{builtin_place}
use Rattle.core_types.specs.declared.builtin.BuiltinType.TheVariants.{Int}
use Rattle.core_types.specs.declared.builtin.IntType.{IntType}
use Rattle.core_types.specs.declared.builtin.IntType.TheVariants.{U8, U16, U32, U64, U128, USize, I8, I16, I32, I64, I128, ISize}
use Rattle.model.specs.lists.Tables.{TypeEntry, builtin_type, primitive_type, enum_type, struct_type}
use Rattle.model.specs.rules.Meaning.{look}
use Rattle.laws_specs.specs.Specs as L
use Rattle.laws_specs.specs.Words as D
use Rattle.model_questions.specs.Formulas as M
use Rattle.model_questions.specs.Forms as MF
use Rattle.model_questions.specs.Evaluated as E
use Rattle.model_questions.specs.Steps as S
use Rattle.model_questions.specs.Questions as Q
use Rattle.spec_cases.specs.declared.asking.Asking.{Asking}
use Rattle.spec_cases.specs.declared.forms.Form.{Form}
use Rattle.spec_cases.specs.declared.formulas.Fact.{Fact}
use Rattle.spec_cases.specs.declared.formulas.Fact.TheVariants as F
use Rattle.spec_cases.specs.declared.sorts.TypeSort.{TypeSort}
use Rattle.spec_cases.specs.declared.steps.Constant.{Constant}
use Rattle.spec_cases.specs.declared.steps.Said.{Said}
use Rattle.spec_cases.specs.declared.steps.Step.{Step}
use Rattle.spec_cases.specs.declared.steps.Step.TheVariants as T
use Rattle.spec_cases.specs.declared.trails.Trail.{Trail}
use Rattle.spec_cases.specs.Arenas.{is_false}
use Rattle.spec_cases.specs.Asking.{all_surely_in, asked_specs, asked_in, asked_after, come_to_in, fact_in, has_atoms, listed, same_in, surely_in, Adds}
use Rattle.spec_cases.specs.Combining.{rest_with}
use Rattle.spec_cases.specs.Expressions.{Saying}
use Rattle.spec_cases.specs.Namings.{Naming, fact_of, form_of, forms_of, is_plain_fact}
use Rattle.spec_cases.specs.Sorts.{type_sort, type_sorts}
use Rattle.spec_cases.specs.Steps.{constant_view, constant_views, is_told, said_view, said_views, step_view, step_views}
use Rattle.spec_cases.specs.Tables.{known_in, specs_in, types_in}
use Rattle.spec_cases.specs.Trails.{trail_of, trails_in}
use Rattle.spec_cases.proofs.AlikeSpecs.{evaluated_alike, fitted_alike, opened_alike, then_alike}
use Rattle.spec_cases.proofs.CombiningSteps.{then_seen}

-- 1. another type and another name are passed over
pub sort_later : (ty : ℕ) (l : List TypeSort) (x : TypeSort) → 1 ≤ length l → x ≡ get_or l 0 x → x.ty.0 ≢ ty
    → look (λ k. k == ty) (type_sorts (take (length l - 1) (drop 1 l))) ≡ look (λ k. k == ty) (type_sorts l)
sort_later ty [] x h at other = absurd (omega arith)
sort_later ty (y ∷ l) x h at other =
    ap (λ r. look (λ k. k == ty) (type_sorts r)) (take_all (length (y ∷ l) - 1) l (omega arith))
    ∙ ap (λ b. if b then Some (type_sort y).1 else look (λ k. k == ty) (type_sorts l)) (sym (ap (λ z. z.ty.0 == ty) (sym at) ∙ ne_eqb x.ty.0 ty other))

pub constant_later : (name : ℕ) (l : List Constant) (x : Constant) → 1 ≤ length l → x ≡ get_or l 0 x → x.name.0 ≢ name
    → look (λ k. k == name) (constant_views (take (length l - 1) (drop 1 l))) ≡ look (λ k. k == name) (constant_views l)
constant_later name [] x h at other = absurd (omega arith)
constant_later name (y ∷ l) x h at other =
    ap (λ r. look (λ k. k == name) (constant_views r)) (take_all (length (y ∷ l) - 1) l (omega arith))
    ∙ ap (λ b. if b then Some (constant_view y).1 else look (λ k. k == name) (constant_views l)) (sym (ap (λ z. z.name.0 == name) (sym at) ∙ ne_eqb x.name.0 name other))

pub ruleset look_steps = (sort_later, constant_later)

-- 2. types that have atoms alone, and widths that are listed
pub integer_atoms : (t : IntType) → has_atoms (builtin_type (builtin_place (Int t))) ≡ true
integer_atoms U8 = refl
integer_atoms U16 = refl
integer_atoms U32 = refl
integer_atoms U64 = refl
integer_atoms U128 = refl
integer_atoms USize = refl
integer_atoms I8 = refl
integer_atoms I16 = refl
integer_atoms I32 = refl
integer_atoms I64 = refl
integer_atoms I128 = refl
integer_atoms ISize = refl

pub split_with : (e : TypeEntry) (s : Option L.Sort) → has_atoms e ≡ true → Q.split_sort (Some e) s ≡ s
split_with (builtin_type zero) s h = absurd (false≢true h)
split_with (builtin_type (suc n)) s h = refl
split_with (primitive_type id name place) s h = refl
split_with (enum_type name id is_extern is_nodebug [] place) s h = refl
split_with (enum_type name id is_extern is_nodebug (v ∷ vs) place) s h = absurd (false≢true h)
split_with (struct_type name id is_extern is_nodebug fields place) s h = absurd (false≢true h)

pub split_without : (e : TypeEntry) (s : Option L.Sort) → has_atoms e ≡ false → Q.split_sort (Some e) s ≡ None
split_without (builtin_type zero) s h = refl
split_without (builtin_type (suc n)) s h = absurd (false≢true (sym h))
split_without (primitive_type id name place) s h = absurd (false≢true (sym h))
split_without (enum_type name id is_extern is_nodebug [] place) s h = absurd (false≢true (sym h))
split_without (enum_type name id is_extern is_nodebug (v ∷ vs) place) s h = refl
split_without (struct_type name id is_extern is_nodebug fields place) s h = refl

pub ruleset split_steps = (split_with, split_without)

at_unlisted : (o : Option L.Sort) (f : ℕ → List (List M.Fact)) (qs : List (List M.Fact)) → listed o ≡ None → Q.at_each_width o f qs ≡ qs
at_unlisted None f qs h = refl
at_unlisted (Some L.truths) f qs h = refl
at_unlisted (Some L.integers) f qs h = refl
at_unlisted (Some (L.words w)) f qs h = refl
at_unlisted (Some (L.words_among ws)) f qs h = cc

at_listed : (o : Option L.Sort) (ws : List ℕ) (f : ℕ → List (List M.Fact)) (qs : List (List M.Fact)) → listed o ≡ Some ws → Q.at_each_width o f qs ≡ Q.each_of f ws
at_listed None ws f qs h = cc
at_listed (Some L.truths) ws f qs h = cc
at_listed (Some L.integers) ws f qs h = cc
at_listed (Some (L.words w)) ws f qs h = cc
at_listed (Some (L.words_among vs)) ws f qs h = let e : vs ≡ ws = cc in ap (Q.each_of f) e

-- 3. what an expression comes to, and whether two values are the same
pub come_to_by : (v : Naming) (w : Saying) (a : Asking) (s : Said) (args : List Form) (values each cs : MF.Cases MF.Form)
    → v.fields s.args.0 ≡ forms_of v args
    → values ≡ E.evaluated (types_in a.tables.now) (specs_in a.tables.now) (known_in v a.tables.now) (forms_of v args) (option_map (form_of v) s.answer) (w.expr s.expr.0) []
    → each ≡ MF.from_each values.cases (E.opened (types_in a.tables.now) (specs_in a.tables.now) (known_in v a.tables.now))
    → cs ≡ rest_with values.rest each → cs ≡ come_to_in v a (said_view v w s)
come_to_by v w a s args values each cs is e h made =
    let types = types_in a.tables.now in
    let few = specs_in a.tables.now in
    let specs = asked_specs a in
    let k = known_in v a.tables.now in
    let of = v.fields s.args.0 in
    let result = option_map (form_of v) s.answer in
    let expr = w.expr s.expr.0 in
    then_seen values (E.evaluated types few k of result expr []) each cs (E.opened types few k) (e ∙ ap (λ l. E.evaluated types few k l result expr []) (sym is)) h made
    ∙ then_alike (E.evaluated types few k of result expr []) (E.evaluated types specs k of result expr []) (E.opened types few k) (E.opened types specs k)
    (evaluated_alike types few specs refl refl k of result expr []) (opened_alike types few specs refl refl k)

pub same_by : (v : Naming) (a : Asking) (f g : MF.Form) (ws : List ℕ) (cs : MF.Cases MF.Form) (x : M.Fact)
    → ws ≡ E.widths_of (specs_in a.tables.now)
    → cs ≡ MF.then_cases (E.opened_each (types_in a.tables.now) (specs_in a.tables.now) (known_in v a.tables.now) (MF.form_and f (MF.form_and g MF.no_form))) (E.fitted ws D.equals)
    → x ≡ MF.perhaps cs → x ≡ same_in v a f g
same_by v a f g ws cs x e h made =
    let types = types_in a.tables.now in
    let few = specs_in a.tables.now in
    let k = known_in v a.tables.now in
    let both = MF.form_and f (MF.form_and g MF.no_form) in
    made
    ∙ ap MF.perhaps
    (h ∙ ap (λ l. MF.then_cases (E.opened_each types few k both) (E.fitted l D.equals)) e ∙ fitted_alike types few (asked_specs a) refl refl k both D.equals)

-- expressions that surely hold, one before others; d stands where there is none
pub surely_first : (v : Naming) (w : Saying) (a : Asking) (l : List Said) (d : Said) (here later f : M.Fact)
    → 1 ≤ length l → here ≡ surely_in v a (said_view v w (get_or l 0 d)) → later ≡ all_surely_in v a (said_views v w (take (length l - 1) (drop 1 l)))
    → f ≡ M.both_of here later → f ≡ all_surely_in v a (said_views v w l)
surely_first v w a [] d here later f h e m made = absurd (omega arith)
surely_first v w a (x ∷ l) d here later f h e m made =
    made
    ∙ ap (λ y. M.both_of y later) e
    ∙ ap (M.both_of (surely_in v a (said_view v w x))) (m ∙ ap (λ r. all_surely_in v a (said_views v w r)) (take_all (length (x ∷ l) - 1) l (omega arith)))

-- 4. a fact that is known to be false leads to no questions
made_kept : (f : M.Fact) (qs : List (List M.Fact)) → is_plain_fact f ≡ false → Q.unless_false f qs ≡ qs
made_kept (M.known b) qs h = absurd (false≢true (sym h))
made_kept (M.truth_at at) qs h = refl
made_kept (M.as_wide at width) qs h = refl
made_kept (M.is_kind at i) qs h = refl
made_kept (M.fact_by o of) qs h = refl
made_kept (M.fact_answered f of) qs h = refl
made_kept (M.both_facts a b) qs h = refl
made_kept (M.one_fact a b) qs h = refl
made_kept (M.no_fact a) qs h = refl
made_kept (M.same_facts a b) qs h = refl

module _ (v : Naming) where
  pub false_skipped : (f : Fact) (qs : List (List M.Fact)) → is_false f ≡ true → Q.unless_false (fact_of v f) qs ≡ []
  false_skipped (F.Known true) qs h = absurd (false≢true h)
  false_skipped (F.Known false) qs h = refl
  false_skipped (F.At p) qs h = absurd (false≢true h)
  false_skipped (F.AsWide p w) qs h = absurd (false≢true h)
  false_skipped (F.IsKind p i) qs h = absurd (false≢true h)
  false_skipped (F.Made n) qs h = absurd (false≢true h)

  pub others_kept : (f : Fact) (qs : List (List M.Fact)) → is_false f ≡ false → Q.unless_false (fact_of v f) qs ≡ qs
  others_kept (F.Known true) qs h = refl
  others_kept (F.Known false) qs h = absurd (false≢true (sym h))
  others_kept (F.At p) qs h = refl
  others_kept (F.AsWide p w) qs h = refl
  others_kept (F.IsKind p i) qs h = refl
  others_kept (F.Made n) qs h = made_kept (v.fact n.0) qs (v.made_facts n.0)

pub ruleset unless_steps = (false_skipped, others_kept)

-- 5. steps, one before others
pub first_step : (v : Naming) (w : Saying) (l : List Step) (x : Step) → 1 ≤ length l → x ≡ get_or l 0 x
    → step_view v w x ∷ step_views v w (take (length l - 1) (drop 1 l)) ≡ step_views v w l
first_step v w [] x h at = absurd (omega arith)
first_step v w (y ∷ l) x h at =
    ap (λ r. step_view v w x ∷ step_views v w r) (take_all (length (y ∷ l) - 1) l (omega arith)) ∙ ap (λ z. step_view v w z ∷ step_views v w l) at

module _ (v : Naming) (w : Saying) (s : ℕ → List M.Fact) (a : Asking) where
  abbrev follow : List S.Step → Trail → M.Fact → List (List M.Fact)
  follow steps t f = Q.paths (types_in a.tables.now) (asked_specs a) steps (Q.learned f (known_in v a.tables.now)) (f ∷ trail_of s t)

  told_first : (x : Step) (f : M.Fact) (steps : List S.Step) (t : Trail) → is_told x ≡ true → f ≡ fact_in v a (step_view v w x)
      → Q.unless_false f (follow steps t f) ≡ asked_in v s a (step_view v w x ∷ steps) t
  told_first (T.SplitAt ty p) f steps t h e = absurd (false≢true h)
  told_first (T.ToldAs g c) f steps t h e = ap (λ y. Q.unless_false y (follow steps t y)) e
  told_first (T.ToldSame g z) f steps t h e = ap (λ y. Q.unless_false y (follow steps t y)) e
  told_first (T.Assumed z) f steps t h e = ap (λ y. Q.unless_false y (follow steps t y)) e
  told_first (T.AssumedUnder zs z) f steps t h e = ap (λ y. Q.unless_false y (follow steps t y)) e
  told_first (T.Shown z) f steps t h e = absurd (false≢true h)

  module _ (old new : List Trail) where
    pub step_told : (x : Step) (f : M.Fact) (steps : List Step) (t : Trail) → is_told x ≡ true → f ≡ fact_in v a (step_view v w x)
        → Adds s old new (Q.unless_false f (asked_after v w s a f steps t)) → Adds s old new (asked_in v s a (step_view v w x ∷ step_views v w steps) t)
    step_told x f steps t h e made = made ∙ ap (λ l. trails_in s old ++ l) (told_first x f (step_views v w steps) t h e)

    -- after one fact more
    pub told_by : (k : E.Known) (f : M.Fact) (steps : List Step) (t next : Trail) → k ≡ Q.learned f (known_in v a.tables.now) → trail_of s next ≡ f ∷ trail_of s t
        → Adds s old new (Q.paths (types_in a.tables.now) (asked_specs a) (step_views v w steps) k (trail_of s next)) → Adds s old new (asked_after v w s a f steps t)
    told_by k f steps t next e h made =
        made
        ∙ ap (λ x. trails_in s old ++ Q.paths (types_in a.tables.now) (asked_specs a) (step_views v w steps) x (trail_of s next)) e
        ∙ ap (λ x. trails_in s old ++ Q.paths (types_in a.tables.now) (asked_specs a) (step_views v w steps) (Q.learned f (known_in v a.tables.now)) x) h

    -- a question, and those after it
    pub shown_by : (said : Said) (f n : M.Fact) (steps : List Step) (t end : Trail) (mid : List Trail)
        → f ≡ fact_in v a (S.shown (said_view v w said)) → n ≡ M.none_of (fact_in v a (S.shown (said_view v w said))) → trail_of s end ≡ n ∷ trail_of s t
        → mid ≡ old ++ end ∷ [] → Adds s mid new (asked_after v w s a f steps t)
        → Adds s old new (asked_in v s a (S.shown (said_view v w said) ∷ step_views v w steps) t)
    shown_by said f n steps t end mid e h ends is made =
        let x = fact_in v a (S.shown (said_view v w said)) in
        let rest : M.Fact → List (List M.Fact) = λ y. asked_after v w s a y steps t in
        made
        ∙ ap (λ l. trails_in s l ++ rest f) is
        ∙ ap (λ l. l ++ rest f) (map-append (trail_of s) old (end ∷ []))
        ∙ append_assoc (trails_in s old) (trail_of s end ∷ []) (rest f)
        ∙ ap (λ l. trails_in s old ++ (l ∷ rest f)) (ends ∙ ap (λ y. y ∷ trail_of s t) h)
        ∙ ap (λ y. trails_in s old ++ ((M.none_of x ∷ trail_of s t) ∷ rest y)) e

    -- a place that is split, or isn't
    module _ (ty : ℕ) (at : M.Place) (steps : List Step) (t : Trail) where
      abbrev sort_there : Option L.Sort
      sort_there = Q.split_sort (slice_get (types_in a.tables.now) ty) (L.sort_of (specs_in a.tables.now) ty)

      pub not_split : listed sort_there ≡ None → Adds s old new (asked_in v s a (step_views v w steps) t) → Adds s old new (asked_in v s a (S.split_at ty at ∷ step_views v w steps) t)
      not_split h made =
          made
          ∙ ap (λ l. trails_in s old ++ l)
          (sym (at_unlisted sort_there (λ x. asked_after v w s a (M.as_wide at x) steps t) (asked_in v s a (step_views v w steps) t) h))

      pub split_by : (ws : List ℕ) → listed sort_there ≡ Some ws → Adds s old new (Q.each_of (λ x. asked_after v w s a (M.as_wide at x) steps t) ws)
          → Adds s old new (asked_in v s a (S.split_at ty at ∷ step_views v w steps) t)
      split_by ws h made =
          made
          ∙ ap (λ l. trails_in s old ++ l)
          (sym (at_listed sort_there ws (λ x. asked_after v w s a (M.as_wide at x) steps t) (asked_in v s a (step_views v w steps) t) h))

-- each width, one before others; d stands where there is none
pub widths_by : (s : ℕ → List M.Fact) (f : ℕ → List (List M.Fact)) (l : List ℕ) (d : ℕ) (old mid new : List Trail) → 1 ≤ length l
    → Adds s old mid (f (get_or l 0 d)) → Adds s mid new (Q.each_of f (take (length l - 1) (drop 1 l))) → Adds s old new (Q.each_of f l)
widths_by s f [] d old mid new h here later = absurd (omega arith)
widths_by s f (y ∷ l) d old mid new h here later =
    later
    ∙ ap (λ r. trails_in s mid ++ Q.each_of f r) (take_all (length (y ∷ l) - 1) l (omega arith))
    ∙ ap (λ r. r ++ Q.each_of f l) here
    ∙ append_assoc (trails_in s old) (f y) (Q.each_of f l)

-- what an optional value says
module _ {X : Type 0} where
  pub from_none : (f : X → List ℕ) (o : Option X) (r : Option (List ℕ)) → option_map f o ≡ r → o ≡ None → r ≡ None
  from_none f o r e is = sym e ∙ ap (option_map f) is

  pub from_some : (f : X → List ℕ) (o : Option X) (r : Option (List ℕ)) (x : X) (ws : List ℕ) → option_map f o ≡ r → o ≡ Some x → ws ≡ f x → r ≡ Some ws
  from_some f o r x ws e is m = sym e ∙ ap (option_map f) is ∙ ap Some (sym m)
