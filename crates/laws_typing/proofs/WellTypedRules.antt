-- Rules that elaborate are well typed: they hang together, and call what the flags of their terms allow.
use Rattle.std.proofs.Common.{◌≡◌, ℕ, pos, unwrap_or, Bool, true, false, List, take, map, Option, Some, None, option_map, slice_get, IsTrue, refl, sym, ap, subst, inl, inr, ◌∙◌, arith}
use Rattle.std.proofs.lemmas.Grind.{common_steps}
use Rattle.std.proofs.lemmas.Bool.{and_parts}
use Rattle.std.proofs.lemmas.Option.{none-some, same_Some}
use Rattle.model.specs.lists.Syntax.{Definition, PatternTree, PatternTrees, ExprTree, IfLetTree, RuleTree}
use Rattle.model.specs.lists.Tables.{Flags, TypeEntry, builtin_type, TermEntry}
use Rattle.model.specs.lists.TermTable.{term_names_met, rule_trees}
use Rattle.model.specs.lists.TypeTable.{builtin_names, builtin_from}
use Rattle.model.specs.lists.Setting.{Setting, Scope, entry_named, is_callable, is_matchable, on_lhs, allow, declared_flags}
use Rattle.model.specs.lists.Elaborated.{named_rule, TypedRules, may_have_priority, typed_rules, named, typed_list}
use Rattle.model.specs.lists.Elaborates.{ElaboratesPattern, ElaboratesParts, ElaboratesEach, binding, a_term, a_template, a_conversion, all_of, no_part, part, no_more, one_more, ElaboratesExpr, ElaboratesIfLets, no_iflet, an_iflet, ElaboratesRule, a_rule, ElaboratesRules, no_rule, one_rule}
use Rattle.model.specs.lists.Formed.{is_formed_rule, program_in}
use Rattle.model.specs.rules.CalledTerms.{CallsAlone}
use Rattle.model.specs.rules.CallsNoMulti.{WhereKnown, PatternCallsNoMulti, PatternsCallNoMulti, ArgsCallNoMulti}
use Rattle.model.specs.rules.Program.{Program, Kind, unknown, kind_of, kind, flags_of}
use Rattle.model.specs.rules.Typed.{TypedPattern, TypedPatterns, no_typed_pattern, typed_pattern_and, TypedExpr, TypedIfLet, TypedRule}
use Rattle.model.specs.claims.Environments.{types_read, setting_of, IsRead}
use Rattle.model.specs.claims.Layers.{own_program}
use Rattle.model.proofs.Elements.{In, in_from_contains, in_map}
use Rattle.laws_typing.specs.WellTypedPrograms.{MayCall, IfLetsMayCall, IsWellTypedRule, IsWellTypedProgram, ElaboratedProgramsAreWellTyped}
use Rattle.laws_typing.proofs.ElaboratedCalls.{expr_calls}
use Rattle.laws_typing.proofs.FormedRules.{TermsAtIds, at_id, rules_are_formed}
use Rattle.laws_typing.proofs.TermLaws.{terms_stand_at_ids_lem}
use Rattle.laws_typing.proofs.TypedRules.{lists_agree}
use Rattle.laws_typing.proofs.WellTypedPrograms.{none_allowed}
use Rattle.laws_typing.proofs.WellTypedTerms.{none_is_both, has_typed_parts}

-- 1. flags
callable_allowed : (flags : Flags) (t : TermEntry) → is_callable flags t.kind ≡ true → allow flags (flags_of (kind_of t)) ≡ true
callable_allowed flags t c = grind (arith, common_steps, and_parts)

matchable_single : (multi : Bool) → multi ≡ false → (t : TermEntry) → is_matchable multi t.kind ≡ true → (flags_of (kind_of t)).multi ≡ false
matchable_single multi m t c = grind (arith, common_steps, none_allowed multi, none_allowed, and_parts)

-- the flags of a declared term are those of its declaration
declared_are : (flags : Flags) (t : TermEntry) → declared_flags t.kind ≡ Some flags → flags_of (kind_of t) ≡ flags
declared_are flags t h = grind (arith, common_steps, none-some flags, none-some, same_Some)

priority_of_multi : (flags : Flags) (r : RuleTree) → flags.multi ≡ true → may_have_priority flags r ≡ true → unwrap_or r.prio (pos 0) ≡ pos 0
priority_of_multi flags r h l = grind (arith, common_steps)

-- what is known of a term's parts, whatever it is
known_from : (k : Kind) (P : Type 0) → P → WhereKnown k P
known_from k P x = grind (arith, common_steps)

args_from : (p : Program) (qs : TypedPatterns) → PatternsCallNoMulti p qs → ArgsCallNoMulti p (typed_list qs)
args_from p no_typed_pattern h = tt
args_from p (typed_pattern_and q qs) h = (h.0, args_from p qs h.1)

-- 2. rules
module _ (e : Setting) (rules : List TypedRule) (at_ids : TermsAtIds e.terms) where
  abbrev p : Program
  p = program_in e rules

  kind_named : (name : ℕ) (t : TermEntry) → entry_named name e.terms ≡ Some t → kind p t.id ≡ kind_of t
  kind_named name t n = ap (λ o. elim o as (λ _. Kind) [ None ↦ unknown | Some x ↦ kind_of x ]) (at_id e rules at_ids name t n)

  expr_allowed : (flags : Flags) {d n : ℕ} {ty : Option ℕ} {x : ExprTree} {s t : Scope} {q : TypedExpr} → ElaboratesExpr e flags d x ty s q t n → CallsAlone (MayCall p flags) q
  expr_allowed flags g = expr_calls e flags (MayCall p flags) (λ name t n c. subst (λ k. IsTrue (allow flags (flags_of k))) (sym (kind_named name t n)) (callable_allowed flags t c)) g

  module _ (multi : Bool) (m : multi ≡ false) where
    mutual
      pattern_single : {d ty n : ℕ} {x : PatternTree} {s t : Scope} {q : TypedPattern} → ElaboratesPattern e multi d x ty s q t n → PatternCallsNoMulti p q
      pattern_single (binding g i) = pattern_single g
      pattern_single (a_term {entry = entry} {qs = qs} i j k c g) =
          (ap (λ k. (flags_of k).multi) (kind_named _ entry i) ∙ matchable_single multi m entry c, known_from (kind p entry.id) (PatternsCallNoMulti p qs) (parts_single g))
      pattern_single (a_template i j k l g) = pattern_single g
      pattern_single (a_conversion i j k g) = pattern_single g
      pattern_single (all_of g) = each_single g
      pattern_single h = grind (arith, common_steps)

      parts_single : {d n : ℕ} {tys : List ℕ} {xs : PatternTrees} {s t : Scope} {qs : TypedPatterns} → ElaboratesParts e multi d xs tys s qs t n → PatternsCallNoMulti p qs
      parts_single no_part = tt
      parts_single (part g i) = (pattern_single g, parts_single i)

      each_single : {d ty n : ℕ} {xs : PatternTrees} {s t : Scope} {qs : TypedPatterns} → ElaboratesEach e multi d xs ty s qs t n → PatternsCallNoMulti p qs
      each_single no_more = tt
      each_single (one_more g i) = (pattern_single g, each_single i)

  iflets_allowed : (flags : Flags) {d n : ℕ} {is : List IfLetTree} {s t : Scope} {qs : List TypedIfLet} → ElaboratesIfLets e flags d is s qs t n → IfLetsMayCall p flags qs
  iflets_allowed flags no_iflet = tt
  iflets_allowed flags (an_iflet g i k) = (λ m. pattern_single flags.multi m i, expr_allowed (on_lhs flags) g, iflets_allowed flags k)

  rule_typed : {d id n : ℕ} {r : RuleTree} {names : List (List ℕ)} {q : TypedRule} {t : Scope} → ElaboratesRule e d id r names q t n → is_formed_rule p q ≡ true → IsWellTypedRule p q
  rule_typed {r = r} (a_rule {entry = entry} {flags = flags} {args = args} {iflets = iflets} {rhs = rhs} i j k l f g x) formed = record {
    formed = formed;
    patterns = λ m. args_from p args (parts_single flags.multi (ap (λ (w : Flags). w.multi) same ∙ m) f);
    conditions = subst (λ w. IfLetsMayCall p w iflets) same (iflets_allowed flags g);
    right = subst (λ w. CallsAlone (MayCall p w) rhs) same (expr_allowed flags x);
    no_priority = λ m. priority_of_multi flags r (ap (λ (w : Flags). w.multi) same ∙ m) l;
  }
    where
      same : flags ≡ flags_of (kind p entry.id)
      same = sym (ap flags_of (kind_named _ entry j) ∙ declared_are flags entry k)

  rules_typed : {id : ℕ} {rs : List RuleTree} {names after : List (List ℕ)} {qs : List TypedRule} → ElaboratesRules e id rs names qs after → (q : TypedRule) → In qs q → IsWellTypedRule p q
  rules_typed no_rule q i = absurd i
  rules_typed (one_rule {q = r} g l rest) q (inl same) = subst (IsWellTypedRule p) same (rule_typed g (rules_are_formed e rules at_ids _ _ _ _ r _ _ g))
  rules_typed (one_rule g l rest) q (inr i) = rules_typed rest q i

  -- a name changes nothing of it
  named_typed : (r : TypedRule) (name : Option ℕ) → IsWellTypedRule p r → IsWellTypedRule p (record r { name = name })
  named_typed r name h = grind (arith, common_steps)

  all_typed : (trees : List RuleTree) (names : List (List ℕ)) (o : Option TypedRules) (l : TypedRules) → typed_rules e 0 trees names ≡ o → option_map (named e) o ≡ Some l
      → (q : TypedRule) → In l.rules q → IsWellTypedRule p q
  all_typed trees names None l g h q i = absurd (none-some l h)
  all_typed trees names (Some k) l g h q i =
      let same : named e k ≡ l = same_Some (named e k) l h in
      let j : In (map (named_rule e.terms k.rules) k.rules) q = subst (λ (x : TypedRules). In x.rules q) (sym same) i in
      let m = in_map (named_rule e.terms k.rules) k.rules q j in
      subst (IsWellTypedRule p) m.2 (named_typed m.0 _ (rules_typed ((lists_agree e 0 trees names k.rules k.names).1 g) m.0 m.1))

-- 3. programs
first_type : (ts : List TypeEntry) → take 13 ts ≡ builtin_from 0 builtin_names → slice_get ts 0 ≡ Some (builtin_type 0)
first_type ts e = grind (arith, common_steps)

pub elaborated_programs_are_well_typed_lem : ElaboratedProgramsAreWellTyped
elaborated_programs_are_well_typed_lem e defs expand rules h =
    let s = setting_of e defs expand in
    let names = term_names_met e.known defs in
    record {
      types = record { ids = h.readable.well_formed.ids; first = first_type e.known.types h.readable.well_formed.builtins };
      parts = has_typed_parts e defs expand rules h;
      not_both = none_is_both e defs expand rules h;
      rules = λ r c.
          all_typed s rules.rules (terms_stand_at_ids_lem e.known defs) (rule_trees defs) names (typed_rules s 0 (rule_trees defs) names) rules refl h.elaborate.typed r
          (in_from_contains rules.rules r c);
    }

-- so does a list that is read with its own types
pub read_programs_are_well_typed : {defs : List Definition} {expand : Bool} {rules : TypedRules} → IsRead defs expand rules → IsWellTypedProgram (own_program defs rules)
read_programs_are_well_typed {defs = defs} {expand = expand} {rules = rules} h = elaborated_programs_are_well_typed_lem (types_read defs) defs expand rules h.elaborated
