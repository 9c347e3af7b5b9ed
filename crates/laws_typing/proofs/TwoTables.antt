-- Rules elaborate alike by two tables of terms that say the same of terms with the same texts for names, each from the names
-- that its table speaks of: names (1), entries of terms (2), variables (3), names of rules and what is found (4), two tables and
-- their scopes (5), look-ups (6), derivations (7), rules (8), and that a rule has a typed rule by both or by none (9).
use Rattle.std.proofs.Common.{◌≡◌, ℕ, suc, ◌+◌, Bool, true, cond, if◌then◌else◌, List, [], ◌∷◌, ◌++◌, length, Option, Some, None, slice_get, is_some, refl, sym, ap, ◌∙◌, subst, arith}
use Rattle.std.proofs.lemmas.Grind.{common_steps}
use Rattle.std.proofs.Math.Path.{ap₂}
use Rattle.std.specs.List.{position_from}
use Rattle.std.specs.Prelude.{unwrap_or, ◌==◌}
use Rattle.std.specs.Str.{bytes_eq}
use Rattle.std.proofs.lemmas.List.{length-append}
use Rattle.std.proofs.lemmas.Option.{none-some, same_Some}
use Rattle.model.specs.lists.Syntax.{Position, Name, PatternTree, PatternTrees, ExprTree, ExprTrees, LetTrees, IfLetTree, RuleTree, var_pattern, bind_pattern, prim_pattern, term_pattern, var_expr, prim_expr, term_expr, let_and, pattern_and, no_pattern, expr_and, no_expr}
use Rattle.model.specs.lists.Names.{number, with_name, IsDistinct}
use Rattle.model.specs.lists.Tables.{Flags, TermEntry, TermKindEntry, ConstructorEntry, ExtractorEntry, declared_term}
use Rattle.model.specs.rules.Meaning.{look}
use Rattle.model.specs.rules.Typed.{TypedPattern, match_bind, match_var, match_prim, match_any, TypedPatterns, TypedExpr, make_var, make_prim, TypedExprs, TypedLets, typed_let_and, TypedVar, TypedIfLet, TypedRule}
use Rattle.model.specs.lists.Setting.{Setting, Scope, new_scope, new_var, met, bound, after_let, var_named, var_of, entry_named, term_of, type_of_name, type_of_constant, on_lhs, that, converter, pattern_converter, expr_converter, has_extractor, has_constructor, is_callable, is_matchable, declared_flags, entry_template, kind_template, template_in, is_expected}
use Rattle.model.specs.lists.Expansions.{term_name_at}
use Rattle.model.specs.lists.Typings.{Typing}
use Rattle.model.specs.lists.Elaborated.{with_own_name, own_number, rule_of_sides, elaborated_rule, few_enough}
use Rattle.model.specs.lists.Elaborates.{ElaboratesPattern, ElaboratesParts, ElaboratesEach, new_name, bound_name, binding, a_truth, an_integer, a_constant, a_term, a_template, a_conversion, anything, all_of, no_part, part, no_more, one_more, ElaboratesExpr, ElaboratesArgs, ElaboratesLets, a_call, converted_call, a_variable, converted_variable, truth_expr, integer_expr, constant_expr, let_in, no_arg, an_arg, no_def, a_def, ElaboratesIfLets, no_iflet, an_iflet, ElaboratesRule, a_rule, ElaboratesRules, no_rule, one_rule}
use Rattle.model.proofs.Names.{found, has_at, same_test, has_new, get_kept, distinct_names}
use Rattle.laws_typing.specs.FurtherNames.{AreThereAlike}
use Rattle.laws_typing.proofs.Typings.{then_gives}
use Rattle.laws_typing.proofs.TypedRules.{rules_agree}

-- 1. names
-- these names stand at their numbers among those
abbrev pub AreKept : List (List ℕ) → List (List ℕ) → Type 0
AreKept ns names = (k : ℕ) (x : List ℕ) → slice_get ns k ≡ Some x → slice_get names k ≡ Some x

-- two numbers are those of one text, each among its names
abbrev pub OfOneText : List (List ℕ) → List (List ℕ) → ℕ → ℕ → Type 0
OfOneText ns ms k l = (x : List ℕ) × (slice_get ns k ≡ Some x) × (slice_get ms l ≡ Some x)

-- a number is that of a text exactly where its name is the text
number_test : (names : List (List ℕ)) → IsDistinct names → (k : ℕ) (x y : List ℕ) → slice_get names k ≡ Some y → (k == number names x) ≡ bytes_eq y x
number_test names once k x y h = grind (arith, common_steps, has_at names k y h, found names y, same_test names y x)

kept_by_name : (names : List (List ℕ)) (x : List ℕ) → AreKept names (with_name names x)
kept_by_name names x k y h = get_kept names (x ∷ []) k y h

-- 2. entries of terms
-- kinds that answer alike
pub record KindAlike (k l : TermKindEntry) : Type 0 where
  pub extractor : has_extractor l ≡ has_extractor k
  pub makes : has_constructor l ≡ has_constructor k
  pub matchable : (multi : Bool) → is_matchable multi l ≡ is_matchable multi k
  pub callable : (flags : Flags) → is_callable flags l ≡ is_callable flags k
  pub declared : declared_flags l ≡ declared_flags k
  pub template : kind_template l ≡ kind_template k

pub same_kind : (k : TermKindEntry) → KindAlike k k
same_kind k = record { extractor = refl; makes = refl; matchable = λ multi. refl; callable = λ flags. refl; declared = refl; template = refl }

pub declared_alike : (flags : Flags) (c d : Option ConstructorEntry) (x y : Option ExtractorEntry) → is_some d ≡ is_some c → is_some y ≡ is_some x → entry_template y ≡ entry_template x
    → KindAlike (declared_term flags c x) (declared_term flags d y)
declared_alike flags c d x y p q r = grind (arith, common_steps)

-- an entry with another number for its name, and another kind that answers alike
pub record EntryAlike (ns ms : List (List ℕ)) (t u : TermEntry) : Type 0 where
  pub name : ℕ
  pub kind : TermKindEntry
  pub same : u ≡ record t { name = name; kind = kind }
  pub named : OfOneText ns ms t.name name
  pub kinds : KindAlike t.kind kind

abbrev pub EntriesAlike : List (List ℕ) → List (List ℕ) → List TermEntry → List TermEntry → Type 0
EntriesAlike ns ms [] [] = Unit {0}
EntriesAlike ns ms (t ∷ ts) (u ∷ us) = EntryAlike ns ms t u × EntriesAlike ns ms ts us
EntriesAlike ns ms _ _ = ⊥

-- 3. variables of two scopes, by the names of each: alike in text, place and type
abbrev VarAlike : List (List ℕ) → List (List ℕ) → TypedVar → TypedVar → Type 0
VarAlike names names' v w = (w.id ≡ v.id) × (w.ty ≡ v.ty) × OfOneText names names' v.name w.name

abbrev VarsAlike : List (List ℕ) → List (List ℕ) → List TypedVar → List TypedVar → Type 0
VarsAlike names names' [] [] = Unit {0}
VarsAlike names names' (v ∷ vs) (w ∷ ws) = VarAlike names names' v w × VarsAlike names names' vs ws
VarsAlike names names' _ _ = ⊥

vars_kept : (a a' b b' : List (List ℕ)) → AreKept a b → AreKept a' b' → (vs ws : List TypedVar) → VarsAlike a a' vs ws → VarsAlike b b' vs ws
vars_kept a a' b b' k l (v ∷ vs) (w ∷ ws) h = grind (arith, common_steps, vars_kept a a' b b' k l vs ws h.1)
vars_kept a a' b b' k l h i j = grind (arith, common_steps)

-- 4. names of rules
-- two numbers of names, or none
abbrev pub NumbersAlike : List (List ℕ) → List (List ℕ) → Option ℕ → Option ℕ → Type 0
NumbersAlike names names' None None = Unit {0}
NumbersAlike names names' (Some k) (Some l) = OfOneText names names' k l
NumbersAlike names names' _ _ = ⊥

-- rules of one term, whose names are of one text
pub record RuleAlike (names names' : List (List ℕ)) (q q' : TypedRule) : Type 0 where
  pub term : q'.root_term ≡ q.root_term
  pub name : NumbersAlike names names' q.name q'.name

abbrev pub RulesAlike : List (List ℕ) → List (List ℕ) → List TypedRule → List TypedRule → Type 0
RulesAlike names names' [] [] = Unit {0}
RulesAlike names names' (q ∷ qs) (r ∷ rs) = RuleAlike names names' q r × RulesAlike names names' qs rs
RulesAlike names names' _ _ = ⊥

pub numbers_kept : (a a' b b' : List (List ℕ)) → AreKept a b → AreKept a' b' → (o p : Option ℕ) → NumbersAlike a a' o p → NumbersAlike b b' o p
numbers_kept a a' b b' k l h i j = grind (arith, common_steps)

-- what is found of two names
abbrev FoundAlike : Option TypedVar → Option TypedVar → Type 0
FoundAlike None None = Unit {0}
FoundAlike (Some v) (Some w) = (w.id ≡ v.id) × (w.ty ≡ v.ty)
FoundAlike _ _ = ⊥

found_step : (a b : Bool) (v w : TypedVar) (o p : Option TypedVar) → a ≡ b → (w.id ≡ v.id) × (w.ty ≡ v.ty) → FoundAlike o p → FoundAlike (cond a (Some v) o) (cond b (Some w) p)
found_step a b v w o p e h g = grind (arith, common_steps)

found_none : (o p : Option TypedVar) → FoundAlike o p → o ≡ None → p ≡ None
found_none o p f h = grind (arith, common_steps, none-some)

found_some : (o p : Option TypedVar) (v : TypedVar) → FoundAlike o p → o ≡ Some v → (w : TypedVar) × (p ≡ Some w) × (w.id ≡ v.id) × (w.ty ≡ v.ty)
found_some o p v f h = grind (arith, common_steps, none-some, same_Some)

-- a term with another number for its name, and another kind, is found
record TermFound (ns ms : List (List ℕ)) (t : TermEntry) (o : Option TermEntry) : Type 0 where
  name : ℕ
  kind : TermKindEntry
  there : o ≡ Some (record t { name = name; kind = kind })
  named : OfOneText ns ms t.name name
  kinds : KindAlike t.kind kind

pub that_passes : (p : TermEntry → Bool) (o : Option TermEntry) (t : TermEntry) → that p o ≡ Some t → (o ≡ Some t) × (p t ≡ true)
that_passes p o t h = grind (arith, common_steps, none-some, same_Some)

-- 5. two tables
-- a setting, with names that it speaks of, and other terms for it, with names that these speak of: the entries are alike, and
-- each name of a type or of a constant has one number
pub record TwoTables : Type 0 where
  pub setting : Setting
  pub names : List (List ℕ)
  pub other_terms : List TermEntry
  pub other_names : List (List ℕ)
  pub terms : EntriesAlike names other_names setting.terms other_terms
  pub type_names : (i k : ℕ) → slice_get setting.type_names i ≡ Some k → OfOneText names other_names k k
  pub constants : (i : ℕ) (c : ℕ × ℕ) → slice_get setting.constants i ≡ Some c → OfOneText names other_names c.0 c.0

-- the setting with the other terms
abbrev pub other_setting : TwoTables → Setting
other_setting two = record two.setting { terms = two.other_terms }

pub text_turned : (ns ms : List (List ℕ)) (k l : ℕ) → OfOneText ns ms k l → OfOneText ms ns l k
text_turned ns ms k l h = (h.0, h.2, h.1)

entry_turned : (ns ms : List (List ℕ)) (t u : TermEntry) → EntryAlike ns ms t u → EntryAlike ms ns u t
entry_turned ns ms t u h = grind (arith, common_steps, text_turned)

pub entries_turned : (ns ms : List (List ℕ)) (ts us : List TermEntry) → EntriesAlike ns ms ts us → EntriesAlike ms ns us ts
entries_turned ns ms (t ∷ ts) (u ∷ us) h = (entry_turned ns ms t u h.0, entries_turned ns ms ts us h.1)
entries_turned ns ms ts us h = grind arith

abbrev pub turned : TwoTables → TwoTables
turned two = record {
  setting = other_setting two;
  names = two.other_names;
  other_terms = two.setting.terms;
  other_names = two.names;
  terms = entries_turned two.names two.other_names two.setting.terms two.other_terms two.terms;
  type_names = λ i k h. text_turned two.names two.other_names k k (two.type_names i k h);
  constants = λ i c h. text_turned two.names two.other_names c.0 c.0 (two.constants i c h);
}

module _ (two : TwoTables) where
  abbrev e : Setting
  e = two.setting

  abbrev f : Setting
  f = other_setting two

  abbrev ns : List (List ℕ)
  ns = two.names

  abbrev ms : List (List ℕ)
  ms = two.other_names

  pub record Alike (s s' : Scope) : Type 0 where
    pub kept : AreKept ns s.names
    pub kept' : AreKept ms s'.names
    pub once : IsDistinct s.names
    pub once' : IsDistinct s'.names
    pub visible : VarsAlike s.names s'.names s.visible s'.visible
    pub count : length s'.vars ≡ length s.vars

  -- scopes with names alone
  pub names_alike : (names names' : List (List ℕ)) → AreKept ns names → AreKept ms names' → IsDistinct names → IsDistinct names' → Alike (new_scope names) (new_scope names')
  names_alike names names' k l once once' = record { kept = k; kept' = l; once = once; once' = once'; visible = tt; count = refl }

  -- further scopes, in which the names of the first are kept
  pub record After (s s' t t' : Scope) : Type 0 where
    pub alike : Alike t t'
    pub kept : AreKept s.names t.names
    pub kept' : AreKept s'.names t'.names

  here : {s s' : Scope} → Alike s s' → After s s' s s'
  here a = record { alike = a; kept = λ k x h. h; kept' = λ k x h. h }

  beyond : {s s' t t' u u' : Scope} → After s s' t t' → After t t' u u' → After s s' u u'
  beyond a b = record { alike = b.alike; kept = λ k x h. b.kept k x (a.kept k x h); kept' = λ k x h. b.kept' k x (a.kept' k x h) }

  after_met : {s s' : Scope} (x : List ℕ) → Alike s s' → After s s' (met s x) (met s' x)
  after_met {s = s} {s' = s'} x a = record {
    alike = record {
      kept = λ k y h. kept_by_name s.names x k y (a.kept k y h);
      kept' = λ k y h. kept_by_name s'.names x k y (a.kept' k y h);
      once = distinct_names s.names (x ∷ []) a.once;
      once' = distinct_names s'.names (x ∷ []) a.once';
      visible = vars_kept s.names s'.names (with_name s.names x) (with_name s'.names x) (kept_by_name s.names x) (kept_by_name s'.names x) s.visible s'.visible a.visible;
      count = a.count;
    };
    kept = kept_by_name s.names x;
    kept' = kept_by_name s'.names x;
  }

  pushed : (xs ys : List TypedVar) (x y : TypedVar) → length ys ≡ length xs → length (ys ++ y ∷ []) ≡ length (xs ++ x ∷ [])
  pushed xs ys x y h = length-append ys (y ∷ []) ∙ ap (λ k. k + 1) h ∙ sym (length-append xs (x ∷ []))

  after_bound : {s s' : Scope} (x : List ℕ) (ty : ℕ) → Alike s s' → After s s' (bound s x ty) (bound s' x ty)
  after_bound {s = s} {s' = s'} x ty a =
      let m = after_met x a in
      record {
        alike = record {
          kept = m.alike.kept;
          kept' = m.alike.kept';
          once = m.alike.once;
          once' = m.alike.once';
          visible = ((a.count, refl, (x, found (with_name s.names x) x (has_new s.names x), found (with_name s'.names x) x (has_new s'.names x))), m.alike.visible);
          count = pushed s.vars s'.vars (new_var s.vars (number (with_name s.names x) x) ty) (new_var s'.vars (number (with_name s'.names x) x) ty) a.count;
        };
        kept = m.kept;
        kept' = m.kept';
      }

  after_scope : {s s' t t' : Scope} → Alike s s' → After s s' t t' → After s s' (after_let s t) (after_let s' t')
  after_scope {s = s} {s' = s'} {t = t} {t' = t'} a b = grind (arith, common_steps, vars_kept)

  -- 6. look-ups
  slice_found : (ts us : List TermEntry) → EntriesAlike ns ms ts us → (i : ℕ) (t : TermEntry) → slice_get ts i ≡ Some t → TermFound ns ms t (slice_get us i)
  slice_found (v ∷ ts) (w ∷ us) h (suc i) t g = slice_found ts us h.1 i t g
  slice_found ts us h i t g = grind (arith, none-some, same_Some)

  converter_found : (i o : ℕ) (t : TermEntry) → converter e i o ≡ Some t → TermFound ns ms t (converter f i o)
  converter_found i o t h = grind (arith, common_steps, then_gives, slice_found)

  passed_found : (p : TermEntry → Bool) → ((t : TermEntry) (n : ℕ) (k : TermKindEntry) → KindAlike t.kind k → p (record t { name = n; kind = k }) ≡ p t) → (i o : ℕ) (t : TermEntry)
      → that p (converter e i o) ≡ Some t → TermFound ns ms t (that p (converter f i o))
  passed_found p stays i o t h = grind (arith, common_steps, that_passes p (converter e i o) t h, converter_found i o t)

  pattern_by : (i o : ℕ) (t : TermEntry) → pattern_converter e i o ≡ Some t → TermFound ns ms t (pattern_converter f i o)
  pattern_by = passed_found (λ t. has_extractor t.kind) (λ t n k h. h.extractor)

  expr_by : (i o : ℕ) (t : TermEntry) → expr_converter e i o ≡ Some t → TermFound ns ms t (expr_converter f i o)
  expr_by = passed_found (λ t. has_constructor t.kind) (λ t n k h. h.makes)

  template_same : (k l : TermKindEntry) → KindAlike k l → template_in f l ≡ template_in e k
  template_same k l h = ap (λ (o : Option PatternTree). if e.expand then o else None) h.template

  module _ {s s' : Scope} (a : Alike s s') where
    same_at : (k l : ℕ) (x : List ℕ) → OfOneText ns ms k l → (k == number s.names x) ≡ (l == number s'.names x)
    same_at k l x y = number_test s.names a.once k x y.0 (a.kept k y.0 y.1) ∙ sym (number_test s'.names a.once' l x y.0 (a.kept' l y.0 y.2))

    entry_found : (x : List ℕ) (ts us : List TermEntry) → EntriesAlike ns ms ts us → (t : TermEntry) → entry_named (number s.names x) ts ≡ Some t → TermFound ns ms t (entry_named (number s'.names x) us)
    entry_found x (v ∷ ts) (w ∷ us) h t g = grind (arith, common_steps, entry_found x ts us h.1 t, same_at, same_Some)
    entry_found x ts us h t g = grind (arith, common_steps, none-some)

    term_found : (x : List ℕ) (t : TermEntry) → term_of e s x ≡ Some t → TermFound ns ms t (term_of f s' x)
    term_found x t h = entry_found x e.terms f.terms two.terms t h

    place_alike : (x : List ℕ) (i : ℕ) (ks : List ℕ) → ((i k : ℕ) → slice_get ks i ≡ Some k → OfOneText ns ms k k) → position_from (λ n. n == number s.names x) i ks ≡ position_from (λ n. n == number s'.names x) i ks
    place_alike x i [] k = refl
    place_alike x i (j ∷ js) k = ap₂ (λ b o. cond b (Some i) o) (same_at j j x (k 0 j refl)) (place_alike x (i + 1) js (λ n u h. k (suc n) u h))

    type_alike : (x : List ℕ) → type_of_name e s x ≡ type_of_name f s' x
    type_alike x = place_alike x 0 e.type_names two.type_names

    look_alike : (x : List ℕ) (cs : List (ℕ × ℕ)) → ((i : ℕ) (c : ℕ × ℕ) → slice_get cs i ≡ Some c → OfOneText ns ms c.0 c.0) → look (λ n. n == number s.names x) cs ≡ look (λ n. n == number s'.names x) cs
    look_alike x [] k = refl
    look_alike x (c ∷ cs) k = ap₂ (λ b o. cond b (Some c.1) o) (same_at c.0 c.0 x (k 0 c refl)) (look_alike x cs (λ i u h. k (suc i) u h))

    constant_alike : (x : List ℕ) → type_of_constant e s x ≡ type_of_constant f s' x
    constant_alike x = look_alike x e.constants two.constants

    -- the name of a constant has one number
    constant_number : (x : List ℕ) (cs : List (ℕ × ℕ)) (ty : ℕ) → ((i : ℕ) (c : ℕ × ℕ) → slice_get cs i ≡ Some c → OfOneText ns ms c.0 c.0) → look (λ n. n == number s.names x) cs ≡ Some ty → number s'.names x ≡ number s.names x
    constant_number x [] ty k h = absurd (none-some ty h)
    constant_number x (c ∷ cs) ty k h = grind (arith, common_steps, constant_number x cs ty (λ i u j. k (suc i) u j), same_at c.0 c.0 x (k 0 c refl))

    vars_alike : (x : List ℕ) (vs ws : List TypedVar) → VarsAlike s.names s'.names vs ws → FoundAlike (var_named (number s.names x) vs) (var_named (number s'.names x) ws)
    vars_alike x (v ∷ vs) (w ∷ ws) h =
        found_step (v.name == number s.names x) (w.name == number s'.names x) v w (var_named (number s.names x) vs) (var_named (number s'.names x) ws)
        (number_test s.names a.once v.name x h.0.2.0 h.0.2.1 ∙ sym (number_test s'.names a.once' w.name x h.0.2.0 h.0.2.2)) (h.0.0, h.0.1) (vars_alike x vs ws h.1)
    vars_alike x vs ws h = grind (arith, common_steps)

    no_var : (x : List ℕ) → var_of s x ≡ None → var_of s' x ≡ None
    no_var x h = found_none (var_of s x) (var_of s' x) (vars_alike x s.visible s'.visible a.visible) h

    some_var : (x : List ℕ) (v : TypedVar) → var_of s x ≡ Some v → (w : TypedVar) × (var_of s' x ≡ Some w) × (w.id ≡ v.id) × (w.ty ≡ v.ty)
    some_var x v h = found_some (var_of s x) (var_of s' x) v (vars_alike x s.visible s'.visible a.visible) h

    -- a term's name is one text
    one_text : (t : TermEntry) (n : ℕ) (k : TermKindEntry) (at : Position) → OfOneText ns ms t.name n → term_name_at s t at ≡ term_name_at s' (record t { name = n; kind = k }) at
    one_text t n k at y = ap (λ (o : Option (List ℕ)). record { text = unwrap_or o []; at = at }) (a.kept t.name y.0 y.1 ∙ sym (a.kept' n y.0 y.2))

  -- 7. derivations
  abbrev PatternAlike : Bool → ℕ → PatternTree → ℕ → Scope → Scope → TypedPattern → Scope → ℕ → Type 0
  PatternAlike multi d p ty s s' q t n = (t' : Scope) × ElaboratesPattern f multi d p ty s' q t' n × After s s' t t'

  module _ (multi : Bool) where
    mutual
      pattern_alike : {d ty n : ℕ} {p : PatternTree} {s t : Scope} {q : TypedPattern} → ElaboratesPattern e multi d p ty s q t n → (s' : Scope) → Alike s s' → PatternAlike multi d p ty s s' q t n
      pattern_alike (new_name {d = d} {ty = ty} {name = name} {at = at} h) s' a = (
        bound s' name.text ty,
        subst (λ k. ElaboratesPattern f multi d (var_pattern name at) ty s' (match_bind ty k (match_any ty)) (bound s' name.text ty) 0) a.count (new_name (no_var a name.text h)),
        after_bound name.text ty a,
      )
      pattern_alike (bound_name {d = d} {ty = ty} {name = name} {at = at} {v = v} h i) s' a =
          let w = some_var a name.text v h in
          (s', subst (λ k. ElaboratesPattern f multi d (var_pattern name at) ty s' (match_var ty k) s' 0) w.2 (bound_name w.1 (w.3 ∙ i)), here a)
      pattern_alike (binding {d = d} {ty = ty} {n = n} {name = name} {p = p} {at = at} {q = q} g h) s' a =
          let r = pattern_alike g s' a in (
            bound r.0 name.text ty,
            subst (λ k. ElaboratesPattern f multi d (bind_pattern name p at) ty s' (match_bind ty k q) (bound r.0 name.text ty) n) r.2.alike.count (binding r.1 (no_var r.2.alike name.text h)),
            beyond r.2 (after_bound name.text ty r.2.alike),
          )
      pattern_alike (a_truth h) s' a = (s', a_truth h, here a)
      pattern_alike (an_integer h) s' a = (s', an_integer h, here a)
      pattern_alike (a_constant {d = d} {ty = ty} {name = name} {at = at} h) s' a = (
        s',
        subst (λ k. ElaboratesPattern f multi d (prim_pattern name at) ty s' (match_prim ty k) s' 0) (constant_number a name.text e.constants ty two.constants h) (a_constant (sym (constant_alike a name.text) ∙ h)),
        here a,
      )
      pattern_alike (a_term {name = name} {entry = entry} h i j k g) s' a =
          let t = term_found a name.text entry h in
          let r = parts_alike g s' a in
          (r.0, a_term t.there i (template_same entry.kind t.kind t.kinds ∙ j) (t.kinds.matchable multi ∙ k) r.1, r.2)
      pattern_alike (a_template {name = name} {entry = entry} h i j k g) s' a =
          let t = term_found a name.text entry h in
          let r = pattern_alike g s' a in
          (r.0, a_template t.there i (template_same entry.kind t.kind t.kinds ∙ j) k r.1, r.2)
      pattern_alike (a_conversion {d = d} {ty = ty} {n = n} {name = name} {args = args} {at = at} {entry = entry} {by = by} {q = q} h i j g) s' a =
          let t' = term_found a name.text entry h in
          let c = pattern_by entry.ret_ty ty by j in
          let r = pattern_alike g s' a in
          let same = one_text a by c.name c.kind at c.named in (
            r.0,
            a_conversion t'.there i c.there
                (subst (λ m. ElaboratesPattern f multi d (term_pattern m (pattern_and (term_pattern name args at) no_pattern) at) ty s' q r.0 n) same r.1),
            r.2,
          )
      pattern_alike anything s' a = (s', anything, here a)
      pattern_alike (all_of g) s' a = (let r = each_alike g s' a in (r.0, all_of r.1, r.2))

      parts_alike : {d n : ℕ} {tys : List ℕ} {ps : PatternTrees} {s t : Scope} {qs : TypedPatterns} → ElaboratesParts e multi d ps tys s qs t n → (s' : Scope) → Alike s s' → (t' : Scope) × ElaboratesParts f multi d ps tys s' qs t' n × After s s' t t'
      parts_alike no_part s' a = (s', no_part, here a)
      parts_alike (part g h) s' a =
          let r = pattern_alike g s' a in
          let l = parts_alike h r.0 r.2.alike in
          (l.0, part r.1 l.1, beyond r.2 l.2)

      each_alike : {d ty n : ℕ} {ps : PatternTrees} {s t : Scope} {qs : TypedPatterns} → ElaboratesEach e multi d ps ty s qs t n → (s' : Scope) → Alike s s' → (t' : Scope) × ElaboratesEach f multi d ps ty s' qs t' n × After s s' t t'
      each_alike no_more s' a = (s', no_more, here a)
      each_alike (one_more g h) s' a =
          let r = pattern_alike g s' a in
          let l = each_alike h r.0 r.2.alike in
          (l.0, one_more r.1 l.1, beyond r.2 l.2)

  module _ (flags : Flags) where
    mutual
      expr_alike : {d n : ℕ} {ty : Option ℕ} {x : ExprTree} {s t : Scope} {q : TypedExpr} → ElaboratesExpr e flags d x ty s q t n → (s' : Scope) → Alike s s' → (t' : Scope) × ElaboratesExpr f flags d x ty s' q t' n × After s s' t t'
      expr_alike (a_call {name = name} {entry = entry} h i j g) s' a =
          let t = term_found a name.text entry h in
          let r = args_alike g s' a in
          (r.0, a_call t.there i (t.kinds.callable flags ∙ j) r.1, r.2)
      expr_alike (converted_call {d = d} {ty = ty} {n = n} {name = name} {args = args} {at = at} {entry = entry} {by = by} {q = q} h i j g) s' a =
          let t' = term_found a name.text entry h in
          let c = expr_by entry.ret_ty ty by j in
          let r = expr_alike g s' a in
          let same = one_text a by c.name c.kind at c.named in (
            r.0,
            converted_call t'.there i c.there
                (subst (λ m. ElaboratesExpr f flags d (term_expr m (expr_and (term_expr name args at) no_expr) at) (Some ty) s' q r.0 n) same r.1),
            r.2,
          )
      expr_alike (a_variable {d = d} {ty = ty} {name = name} {at = at} {v = v} h i) s' a =
          let w = some_var a name.text v h in (
            s',
            subst (λ k. ElaboratesExpr f flags d (var_expr name at) ty s' (make_var v.ty k) s' 0) w.2
                (subst (λ k. is_expected ty k ≡ true → ElaboratesExpr f flags d (var_expr name at) ty s' (make_var k w.0.id) s' 0) w.3 (λ g. a_variable w.1 g) i),
            here a,
          )
      expr_alike (converted_variable {d = d} {ty = ty} {n = n} {name = name} {at = at} {v = v} {by = by} {q = q} h i j g) s' a =
          let w = some_var a name.text v h in
          let c = expr_by v.ty ty by j in
          let r = expr_alike g s' a in
          let same = one_text a by c.name c.kind at c.named in (
            r.0,
            converted_variable w.1 (λ g. i (sym w.3 ∙ g)) (ap (λ k. expr_converter f k ty) w.3 ∙ c.there)
                (subst (λ m. ElaboratesExpr f flags d (term_expr m (expr_and (var_expr name at) no_expr) at) (Some ty) s' q r.0 n) same r.1),
            r.2,
          )
      expr_alike (truth_expr h) s' a = (s', truth_expr h, here a)
      expr_alike (integer_expr h) s' a = (s', integer_expr h, here a)
      expr_alike (constant_expr {d = d} {own = own} {ty = ty} {name = name} {at = at} h i) s' a = (
        s',
        subst (λ k. ElaboratesExpr f flags d (prim_expr name at) ty s' (make_prim own k) s' 0) (constant_number a name.text e.constants own two.constants h) (constant_expr (sym (constant_alike a name.text) ∙ h) i),
        here a,
      )
      expr_alike (let_in g h) s' a =
          let r = lets_alike g s' a in
          let l = expr_alike h r.0 r.2.alike in
          (after_let s' l.0, let_in r.1 l.1, after_scope a (beyond r.2 l.2))

      args_alike : {d n : ℕ} {tys : List ℕ} {xs : ExprTrees} {s t : Scope} {qs : TypedExprs} → ElaboratesArgs e flags d xs tys s qs t n → (s' : Scope) → Alike s s' → (t' : Scope) × ElaboratesArgs f flags d xs tys s' qs t' n × After s s' t t'
      args_alike no_arg s' a = (s', no_arg, here a)
      args_alike (an_arg g h) s' a =
          let r = expr_alike g s' a in
          let l = args_alike h r.0 r.2.alike in
          (l.0, an_arg r.1 l.1, beyond r.2 l.2)

      lets_alike : {d n : ℕ} {ls : LetTrees} {s t : Scope} {ds : TypedLets} → ElaboratesLets e flags d ls s ds t n → (s' : Scope) → Alike s s' → (t' : Scope) × ElaboratesLets f flags d ls s' ds t' n × After s s' t t'
      lets_alike no_def s' a = (s', no_def, here a)
      lets_alike (a_def {d = d} {own = own} {n = n} {m = m} {name = name} {ty = ty} {value = value} {at = at} {rest = rest} {q = q} {ds = ds} h g i) s' a =
          let b = after_met name.text a in
          let r = expr_alike g (met s' name.text) b.alike in
          let c = after_bound name.text own r.2.alike in
          let l = lets_alike i (bound r.0 name.text own) c.alike in (
            l.0,
            subst (λ k. ElaboratesLets f flags d (let_and name ty value at rest) s' (typed_let_and k own q ds) l.0 (n + m)) r.2.alike.count (a_def (sym (type_alike a ty.text) ∙ h) r.1 l.1),
            beyond
                (beyond (beyond b r.2) c) l.2,
          )

  iflets_alike : (flags : Flags) {d n : ℕ} {is : List IfLetTree} {s t : Scope} {qs : List TypedIfLet} → ElaboratesIfLets e flags d is s qs t n → (s' : Scope) → Alike s s' → (t' : Scope) × ElaboratesIfLets f flags d is s' qs t' n × After s s' t t'
  iflets_alike flags no_iflet s' a = (s', no_iflet, here a)
  iflets_alike flags (an_iflet g h i) s' a =
      let r = expr_alike (on_lhs flags) g s' a in
      let l = pattern_alike flags.multi h r.0 r.2.alike in
      let m = iflets_alike flags i l.0 l.2.alike in
      (m.0, an_iflet r.1 l.1 m.1, beyond (beyond r.2 l.2) m.2)

  -- 8. rules
  -- the scopes after a rule's own name
  named_after : {s s' : Scope} (o : Option Name) → Alike s s' → After s s' (with_own_name o s) (with_own_name o s')
  named_after None a = here a
  named_after (Some n) a = after_met n.text a

  own_alike : (s s' : Scope) (o : Option Name) → NumbersAlike (with_own_name o s).names (with_own_name o s').names (own_number s o) (own_number s' o)
  own_alike s s' None = tt
  own_alike s s' (Some n) = (n.text, found (with_name s.names n.text) n.text (has_new s.names n.text), found (with_name s'.names n.text) n.text (has_new s'.names n.text))

  -- a rule, and the scope after it
  pub record RuleFound (d id : ℕ) (r : RuleTree) (names names' : List (List ℕ)) (q : TypedRule) (t : Scope) (n : ℕ) : Type 0 where
    pub rule : TypedRule
    pub scope : Scope
    pub made : ElaboratesRule f d id r names' rule scope n
    pub after : After (new_scope names) (new_scope names') t scope
    pub alike : RuleAlike t.names scope.names q rule

  pub rule_found : (d id : ℕ) (r : RuleTree) (names names' : List (List ℕ)) (q : TypedRule) (t : Scope) (n : ℕ) → Alike (new_scope names) (new_scope names') → ElaboratesRule e d id r names q t n
      → RuleFound d id r names names' q t n
  rule_found d id r names names' q t n a (a_rule {name = name} {entry = entry} {flags = flags} {s = v} {t = w} {u = u} {args = args} {iflets = iflets} {rhs = rhs} h i j k x g y) =
      let s : Scope = new_scope names in
      let s' : Scope = new_scope names' in
      let m = term_found a name.text entry i in
      let p = parts_alike flags.multi x s' a in
      let l = iflets_alike flags g p.0 p.2.alike in
      let c = expr_alike flags y l.0 l.2.alike in
      let z = named_after r.name c.2.alike in
      record {
        rule = rule_of_sides id r (record entry { name = m.name; kind = m.kind }) (args, (iflets, rhs)) c.0;
        scope = with_own_name r.name c.0;
        made = a_rule h m.there (m.kinds.declared ∙ j) k p.1 l.1 c.1;
        after = beyond (beyond (beyond p.2 l.2) c.2) z;
        alike = record { term = refl; name = own_alike u c.0 r.name };
      }

  -- the next rule begins with the names alone
  next_scope : {t t' : Scope} → Alike t t' → Alike (new_scope t.names) (new_scope t'.names)
  next_scope {t = t} {t' = t'} a = names_alike t.names t'.names a.kept a.kept' a.once a.once'

  -- the rules of a list
  pub record RulesFound (id : ℕ) (rs : List RuleTree) (names names' after : List (List ℕ)) (qs : List TypedRule) : Type 0 where
    pub rules : List TypedRule
    pub last : List (List ℕ)
    pub made : ElaboratesRules f id rs names' rules last
    pub kept : AreKept names after
    pub kept' : AreKept names' last
    pub alike : RulesAlike after last qs rules
    pub scopes : Alike (new_scope after) (new_scope last)

  pub rules_found : {id : ℕ} {rs : List RuleTree} {names after : List (List ℕ)} {qs : List TypedRule} → ElaboratesRules e id rs names qs after → (names' : List (List ℕ)) → Alike (new_scope names) (new_scope names')
      → RulesFound id rs names names' after qs
  rules_found no_rule names' a = record { rules = []; last = names'; made = no_rule; kept = λ k x h. h; kept' = λ k x h. h; alike = tt; scopes = a }
  rules_found (one_rule {id = id} {n = n} {r = r} {names = names} {after = after} {q = q} {t = t} g l rest) names' a =
      let x = rule_found _ id r names names' q t n a g in
      let y = rules_found rest x.scope.names (next_scope x.after.alike) in
      record {
        rules = x.rule ∷ y.rules;
        last = y.last;
        made = one_rule x.made l y.made;
        kept = λ k z h. y.kept k z (x.after.kept k z h);
        kept' = λ k z h. y.kept' k z (x.after.kept' k z h);
        alike = (record { term = x.alike.term; name = numbers_kept t.names x.scope.names after y.last y.kept y.kept' q.name x.rule.name x.alike.name }, y.alike);
        scopes = y.scopes;
      }

  -- 9. a rule has a typed rule by both tables, or by none
  typing_found : (d id : ℕ) (r : RuleTree) (names names' : List (List ℕ)) → Alike (new_scope names) (new_scope names') → (q : Typing TypedRule) → elaborated_rule e d id r names ≡ Some q
      → (b : Typing TypedRule) × (elaborated_rule f d id r names' ≡ Some b) × (q.expansions ≡ b.expansions)
  typing_found d id r names names' a q h = grind (arith, common_steps, rule_found d id r names names' q.made q.scope q.expansions a, rule_found, rules_agree)

-- from one another
there_alike : (o p : Option (Typing TypedRule)) → ((a : Typing TypedRule) → o ≡ Some a → (b : Typing TypedRule) × (p ≡ Some b) × (a.expansions ≡ b.expansions))
    → ((b : Typing TypedRule) → p ≡ Some b → (a : Typing TypedRule) × (o ≡ Some a) × (b.expansions ≡ a.expansions)) → AreThereAlike o p
there_alike o p f g = grind (arith, common_steps, none-some, same_Some)

pub few_alike : (o p : Option (Typing TypedRule)) → AreThereAlike o p → AreThereAlike (few_enough o) (few_enough p)
few_alike o p h = grind (arith, common_steps)

pub typings_alike : (two : TwoTables) (names names' : List (List ℕ)) → Alike two (new_scope names) (new_scope names') → (d id : ℕ) (r : RuleTree)
    → AreThereAlike (elaborated_rule two.setting d id r names) (elaborated_rule (other_setting two) d id r names')
typings_alike two names names' a d id r =
    there_alike (elaborated_rule two.setting d id r names) (elaborated_rule (other_setting two) d id r names') (typing_found two d id r names names' a)
    (typing_found (turned two) d id r names' names (names_alike (turned two) names' names a.kept' a.kept a.once' a.once))
