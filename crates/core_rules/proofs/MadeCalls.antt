-- Where each term that typed rules call has a constructor, each term that the expressions of their trees use has one: what is used is
-- called, by its id.
use Rattle.std.proofs.Common.{◌≡◌, ℕ, suc, ◌+◌, true, IsTrue, All, List, [], ◌∷◌, ◌++◌, Option, Some, None, refl, sym, ap, subst, ◌∙◌, arith}
use Rattle.std.specs.List.{flat_map}
use Rattle.std.proofs.lemmas.List.Elements.{All-nil, All-cons, All-head, All-tail, All-append}
use Rattle.std.proofs.lemmas.Option.{same_Some}
use Rattle.std.proofs.lemmas.Grind.{common_steps}
use Rattle.core_syntax.specs.Expressions.{terms_of_expr, terms_of_exprs, terms_of_lets}
use Rattle.model.specs.lists.Syntax.{Position, Name, ExprTree, term_expr, ExprTrees, LetTrees, IfLetTree, RuleTree}
use Rattle.model.specs.lists.Names.{number}
use Rattle.model.specs.lists.Tables.{Flags, TermEntry}
use Rattle.model.specs.lists.TermTable.{root_name}
use Rattle.model.specs.rules.CalledTerms.{CallsAlone, CallAlone, LetsCallAlone}
use Rattle.model.specs.rules.Typed.{TypedExpr, TypedExprs, TypedLets, TypedIfLet, TypedRule}
use Rattle.model.specs.lists.Setting.{Setting, Scope, new_scope, entry_named, term_of, has_constructor, expr_type, on_lhs, declared_flags}
use Rattle.model.specs.lists.Typings.{Typing}
use Rattle.model.specs.lists.Expansions.{term_name_at}
use Rattle.model.specs.lists.Elaborated.{elaborated_pattern, elaborated_parts, typed_iflet, root_parts, sides_of, last_sides, Sides, finished_rule, may_have_priority, most_nested, few_enough, TypedRules, with_typed}
use Rattle.model.specs.lists.Elaborates.{ElaboratesExpr, ElaboratesArgs, ElaboratesLets, a_call, converted_call, let_in, no_arg, an_arg, no_def, a_def}
use Rattle.laws_typing.proofs.FormedRules.{named_at}
use Rattle.laws_typing.specs.TypingLaws.{typing}
use Rattle.laws_typing.proofs.Typings.{then_gives, followed_gives, if_gives}
use Rattle.laws_typing.proofs.TypedPatterns as patterns
use Rattle.laws_typing.proofs.TypedExprs as exprs
use Rattle.core_types.proofs.RightTypes.{all_left}
use Rattle.core_rules.specs.Constructors.{has_constructor_if_there, AreMadeUses, IsMadeTerm, IfLetCallsMade, CallsMade, uses_of_rule, AreTermsNamed}
use Rattle.laws_errors.specs.AllMade.{all_made}
use Rattle.core_rules.specs.ExprReadings.{expr_reading}
use Rattle.core_rules.specs.RuleLists.{rule_within, rules_within}
use Rattle.core_rules.specs.RuleReadings.{iflet_reading, iflets_reading, ends_reading, sides_reading, rule_of_entry, rule_reading}
use Rattle.core_rules.proofs.ConstructorLaws.{mapped, with_some, same_entry, own_kept}
use Rattle.core_rules.proofs.MadeSettings.{term_made}
use Rattle.core_rules.proofs.NamesKept.{Kept, kept_here, kept_on, kept_with, pattern_keeps, parts_keep, expr_keeps, lets_keep}

-- what is within the limits is what it was
within_gives : {X : Type 0} (o : Option (Typing X)) (a : Typing X) → few_enough o ≡ Some a → o ≡ Some a
within_gives o a h = grind (arith, common_steps, if_gives)

module _ (e : Setting) (names : List (List ℕ)) (k : AreTermsNamed e names) where
  abbrev P : Position × Name → Type 0
  P u = IsTrue (has_constructor_if_there (entry_named (number names u.1.text) e.terms))

  abbrev Calls : TypedExpr → Type 0
  Calls q = CallsAlone (IsMadeTerm e.terms) q

  -- a term that is found by its name stands at its id
  made_by_id : (name : ℕ) (t : TermEntry) → entry_named name e.terms ≡ Some t → IsMadeTerm e.terms t.id → has_constructor t.kind ≡ true
  made_by_id name t h m = grind (arith, common_steps, named_at)

  module _ (flags : Flags) where
    mutual
      expr_uses : {d n : ℕ} {ty : Option ℕ} {x : ExprTree} {s t : Scope} {q : TypedExpr} → ElaboratesExpr (all_made e) flags d x ty s q t n → Kept names s.names → Calls q → AreMadeUses e names (terms_of_expr x)
      expr_uses (a_call {name = name} {args = args} {at = at} {s = s} {entry = entry} h i j g) w m =
          let f = mapped (term_of e s name.text) entry (sym (term_made e s name.text (term_of e s name.text) refl) ∙ h) in
          let own = subst (IsMadeTerm e.terms) (sym (ap (λ (v : TermEntry). v.id) f.2)) m.0 in
          All-cons P (at, name) (terms_of_exprs args) (ap has_constructor_if_there (sym (same_entry e names k s.names w name.text) ∙ f.1) ∙ made_by_id (number s.names name.text) f.0 f.1 own) (args_uses g w m.1)
      expr_uses (converted_call {name = name} {args = args} {at = at} {s = s} {by = by} h i j g) w m =
          all_left P (terms_of_expr (term_expr name args at)) [] (All-tail P (at, term_name_at s by at) (terms_of_expr (term_expr name args at) ++ []) (expr_uses g w m))
      expr_uses (let_in {defs = defs} {body = body} g h) w m = All-append P (terms_of_lets defs) (terms_of_expr body) (lets_uses g w m.0) (expr_uses h (kept_on w (lets_keep (all_made e) flags g)) m.1)
      expr_uses _ w m = All-nil P

      args_uses : {d n : ℕ} {xs : ExprTrees} {tys : List ℕ} {s t : Scope} {qs : TypedExprs} → ElaboratesArgs (all_made e) flags d xs tys s qs t n → Kept names s.names → CallAlone (IsMadeTerm e.terms) qs → AreMadeUses e names (terms_of_exprs xs)
      args_uses no_arg w m = All-nil P
      args_uses (an_arg {x = x} {rest = rest} g h) w m = All-append P (terms_of_expr x) (terms_of_exprs rest) (expr_uses g w m.0) (args_uses h (kept_on w (expr_keeps (all_made e) flags g)) m.1)

      lets_uses : {d n : ℕ} {defs : LetTrees} {s t : Scope} {qs : TypedLets} → ElaboratesLets (all_made e) flags d defs s qs t n → Kept names s.names → LetsCallAlone (IsMadeTerm e.terms) qs → AreMadeUses e names (terms_of_lets defs)
      lets_uses no_def w m = All-nil P
      lets_uses (a_def {name = name} {value = value} {rest = rest} {s = s} {t = t} h g i) w m =
          let v = kept_on w (kept_with s.names name.text) in
          All-append P (terms_of_expr value) (terms_of_lets rest) (expr_uses g v m.0) (lets_uses i (kept_on v (kept_on (expr_keeps (all_made e) flags g) (kept_with t.names name.text))) m.1)

  module _ (flags : Flags) (d : ℕ) where
    -- an expression, by how it is read
    read_keeps : (f : Flags) (x : ExprTree) (ty : Option ℕ) (s : Scope) (a : Typing TypedExpr) → expr_reading x f ty e d s ≡ Some a → Kept s.names a.scope.names
    read_keeps f x ty s a h = expr_keeps (all_made e) f (exprs.sound (all_made e) f d x ty s a h)

    read_uses : (f : Flags) (x : ExprTree) (ty : Option ℕ) (s : Scope) (a : Typing TypedExpr) → expr_reading x f ty e d s ≡ Some a → Kept names s.names → Calls a.made → AreMadeUses e names (terms_of_expr x)
    read_uses f x ty s a h w m = expr_uses f (exprs.sound (all_made e) f d x ty s a h) w m

    abbrev iflet_uses : List IfLetTree → List (Position × Name)
    iflet_uses is = flat_map (λ i. terms_of_expr i.expr) is

    -- if-lets in order
    record ReadIfLets (is : List IfLetTree) (s : Scope) (a : Typing (List TypedIfLet)) : Type 0 where
      pub keep : Kept s.names a.scope.names
      pub uses : Kept names s.names → All (IfLetCallsMade e.terms) a.made → AreMadeUses e names (iflet_uses is)

    iflets_read : (is : List IfLetTree) (s : Scope) (a : Typing (List TypedIfLet)) → iflets_reading is flags e d s ≡ Some a → ReadIfLets is s a
    iflets_read [] s a h = subst (ReadIfLets [] s) (same_Some _ a h) (record { keep = kept_here; uses = λ w m. All-nil P })
    iflets_read (i ∷ is) s a h =
        let f = followed_gives ◌∷◌ (iflet_reading i flags e d s) (λ b. iflets_reading is flags e d b.scope) h in
        let g = followed_gives typed_iflet (expr_reading i.expr (on_lhs flags) None e d s) (λ b. elaborated_pattern e flags.multi d i.pattern (expr_type b.made) b.scope) f.2 in
        let rest = iflets_read is f.0.scope f.1 f.3 in
        let first : Kept s.names f.0.scope.names =
        kept_on (read_keeps (on_lhs flags) i.expr None s g.0 g.2)
        (subst (λ (v : Typing TypedIfLet). Kept g.0.scope.names v.scope.names) g.4 (pattern_keeps e flags.multi (patterns.sound e flags.multi d i.pattern (expr_type g.0.made) g.0.scope g.1 g.3))) in
        subst (ReadIfLets (i ∷ is) s) f.4
        (record {
          keep = kept_on first rest.keep;
          uses = λ w m.
              All-append P (terms_of_expr i.expr) (iflet_uses is)
              (read_uses (on_lhs flags) i.expr None s g.0 g.2 w (subst (λ (v : Typing TypedIfLet). Calls v.made.rhs) (sym g.4) (All-head (IfLetCallsMade e.terms) f.0.made f.1.made m)))
              (rest.uses (kept_on w first) (All-tail (IfLetCallsMade e.terms) f.0.made f.1.made m));
        })

    -- the sides of a rule
    record ReadSides (r : RuleTree) (s : Scope) (a : Typing Sides) : Type 0 where
      pub keep : Kept s.names a.scope.names
      pub uses : Kept names s.names → All (IfLetCallsMade e.terms) a.made.1.0 → Calls a.made.1.1 → AreMadeUses e names (uses_of_rule r)

    sides_read : (r : RuleTree) (t : TermEntry) (s : Scope) (a : Typing Sides) → sides_reading r flags t e d s ≡ Some a → ReadSides r s a
    sides_read r t s a h =
        let f = followed_gives sides_of (elaborated_parts e flags.multi d (root_parts r.pattern) t.arg_tys s) (λ b. ends_reading r flags t e d b.scope) h in
        let g = followed_gives last_sides (iflets_reading r.iflets flags e d f.0.scope) (λ b. expr_reading r.expr flags (Some t.ret_ty) e d b.scope) f.3 in
        let parts = parts_keep e flags.multi (patterns.parts_sound e flags.multi d (root_parts r.pattern) t.arg_tys s f.0 f.2) in
        let ifs = iflets_read r.iflets f.0.scope g.0 g.2 in
        subst (ReadSides r s) f.4
        (subst (λ (x : Typing (List TypedIfLet × TypedExpr)). ReadSides r s (typing (sides_of f.0.made x.made) x.scope (f.0.expansions + x.expansions))) g.4
        (record {
          keep = kept_on parts (kept_on ifs.keep (read_keeps flags r.expr (Some t.ret_ty) g.0.scope g.1 g.3));
          uses = λ w m c.
              All-append P (iflet_uses r.iflets) (terms_of_expr r.expr) (ifs.uses (kept_on w parts) m)
              (read_uses flags r.expr (Some t.ret_ty) g.0.scope g.1 g.3 (kept_on w (kept_on parts ifs.keep)) c);
        }))

  -- a rule
  record ReadRule (r : RuleTree) (ms : List (List ℕ)) (a : Typing TypedRule) : Type 0 where
    pub keep : Kept ms a.scope.names
    pub uses : Kept names ms → CallsMade e.terms a.made → AreMadeUses e names (uses_of_rule r)

  finished_read : (id d : ℕ) (r : RuleTree) (t : TermEntry) (flags : Flags) (s : Scope) (o : Option (Typing Sides)) (a : Typing TypedRule) → sides_reading r flags t e d s ≡ o → finished_rule id r t o ≡ Some a → ReadRule r s.names a
  finished_read id d r t flags s None a h q = absurd (cc)
  finished_read id d r t flags s (Some b) a h q =
      let read = sides_read flags d r t s b h in
      subst (ReadRule r s.names) (same_Some _ a q) (record { keep = kept_on read.keep (own_kept e names k r.name b.scope); uses = λ w m. read.uses w m.0 m.1 })

  rule_read : (id d : ℕ) (r : RuleTree) (ms : List (List ℕ)) (a : Typing TypedRule) → rule_reading r id e d (new_scope ms) ≡ Some a → ReadRule r ms a
  rule_read id d r ms a h =
      let s = new_scope ms in
      let n = then_gives (root_name r.pattern) _ h in
      let t = then_gives (term_of e s n.0.text) _ n.2 in
      let f = then_gives (declared_flags t.0.kind) (λ flags. rule_of_entry r id t.0 flags e d s) t.2 in
      finished_read id d r t.0 f.0 s (sides_reading r f.0 t.0 e d s) a refl (if_gives (may_have_priority f.0 r) _ f.2).1

  -- the rules of a list
  pub rules_made : (id : ℕ) (rs : List RuleTree) (ms : List (List ℕ)) (l : TypedRules) → Kept names ms → rules_within e id rs ms ≡ Some l → All (CallsMade e.terms) l.rules → AreMadeUses e names (flat_map uses_of_rule rs)
  rules_made id [] ms l w h m = All-nil P
  rules_made id (r ∷ rs) ms l w h m =
      let a = then_gives (rule_within e id r ms) (λ a. with_typed a.made (rules_within e (suc id) rs a.scope.names)) h in
      let read = rule_read id most_nested r ms a.0 (within_gives (rule_reading r id e most_nested (new_scope ms)) a.0 a.1) in
      let rest = with_some a.0.made (rules_within e (suc id) rs a.0.scope.names) l a.2 in
      let calls = subst (λ (x : TypedRules). All (CallsMade e.terms) x.rules) rest.2 m in
      All-append P (uses_of_rule r) (flat_map uses_of_rule rs) (read.uses w (All-head (CallsMade e.terms) a.0.made rest.0.rules calls))
      (rules_made (suc id) rs a.0.scope.names rest.0 (kept_on w read.keep) rest.1 (All-tail (CallsMade e.terms) a.0.made rest.0.rules calls))
