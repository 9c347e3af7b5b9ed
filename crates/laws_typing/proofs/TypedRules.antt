-- If-lets and rules: the rules of typing and the function say the same.
use Rattle.std.proofs.Common.{true, ◌≡◌, ℕ, zero, suc, ◌+◌, ◌-◌, ◌≤◌, List, [], ◌∷◌, Option, Some, None, subst, refl, sym, ap, ◌∙◌, arith, nat_le}
use Rattle.std.proofs.lemmas.Grind.{common_steps}
use Rattle.std.proofs.lemmas.Option.{same_Some}
use Rattle.std.proofs.lemmas.Bool.{le-leb, leb-true}
use Rattle.model.specs.lists.Syntax.{Name, IfLetTree, RuleTree}
use Rattle.model.specs.lists.Tables.{Flags, TermEntry}
use Rattle.model.specs.rules.Typed.{TypedPattern, TypedPatterns, TypedExpr, TypedIfLet, TypedRule}
use Rattle.model.specs.lists.TermTable.{root_name}
use Rattle.model.specs.lists.Setting.{Setting, Scope, new_scope, term_of, declared_flags, on_lhs, expr_type}
use Rattle.model.specs.lists.Typings.{Typing, followed}
use Rattle.model.specs.lists.Elaborated.{TypedRules, with_typed, typed_rule, typed_rules, elaborated_pattern, elaborated_parts, elaborated_expr, elaborated_iflet, elaborated_iflets, elaborated_sides, elaborated_rule, rule_of_term, Sides, sides_of, last_sides, typed_iflet, root_parts, finished_rule, rule_of_sides, with_own_name, may_have_priority, few_enough, most_nested, most_expansions}
use Rattle.model.specs.lists.Elaborates.{ElaboratesPattern, ElaboratesParts, ElaboratesExpr, ElaboratesIfLets, no_iflet, an_iflet, ElaboratesRule, a_rule, ElaboratesRules, no_rule, one_rule}
use Rattle.laws_typing.specs.TypingLaws.{PatternsAgree, ExprsAgree, RulesAgree, TypedWithinLimits, MoreMayNest, PatternsOneWay, ExprsOneWay, RulesOneWay, ListsAgree, typing}
use Rattle.laws_typing.proofs.Typings.{then_gives, followed_gives, if_gives}
use Rattle.laws_typing.proofs.TypedPatterns as patterns
use Rattle.laws_typing.proofs.TypedExprs as exprs

finished_gives : (id : ℕ) (r : RuleTree) (entry : TermEntry) (o : Option (Typing Sides)) {q : Typing TypedRule}
    → finished_rule id r entry o ≡ Some q
    → (a : Typing Sides) × (o ≡ Some a) × (typing (rule_of_sides id r entry a.made a.scope) (with_own_name r.name a.scope) a.expansions ≡ q)
finished_gives id r entry o h = grind (arith, common_steps, same_Some)

module _ (e : Setting) (flags : Flags) where
  complete_iflets : {d n : ℕ} {is : List IfLetTree} {s t : Scope} {qs : List TypedIfLet} → ElaboratesIfLets e flags d is s qs t n → elaborated_iflets e flags d is s ≡ Some (typing qs t n)
  complete_iflets no_iflet = refl
  complete_iflets (an_iflet g h i) = rw (exprs.complete e (on_lhs flags) g, patterns.complete e flags.multi h, complete_iflets i) refl

  -- an if-let, then the others
  iflet_before : (d : ℕ) (i : IfLetTree) (is : List IfLetTree) (s : Scope) (a : Typing TypedExpr) (b : Typing TypedPattern) (m : Typing TypedIfLet) (c r : Typing (List TypedIfLet))
      → typing (typed_iflet a.made b.made) b.scope (a.expansions + b.expansions) ≡ m
      → typing (m.made ∷ c.made) c.scope (m.expansions + c.expansions) ≡ r
      → ElaboratesExpr e (on_lhs flags) d i.expr None s a.made a.scope a.expansions
      → ElaboratesPattern e flags.multi d i.pattern (expr_type a.made) a.scope b.made b.scope b.expansions
      → ElaboratesIfLets e flags d is m.scope c.made c.scope c.expansions
      → ElaboratesIfLets e flags d (i ∷ is) s r.made r.scope r.expansions
  iflet_before d i is s a b m c r h k x q l =
      subst (λ (v : Typing (List TypedIfLet)). ElaboratesIfLets e flags d (i ∷ is) s v.made v.scope v.expansions) k
      (subst (λ (v : Typing TypedIfLet). ElaboratesIfLets e flags d (i ∷ is) s (v.made ∷ c.made) c.scope (v.expansions + c.expansions)) h
      (an_iflet x q (subst (λ (v : Typing TypedIfLet). ElaboratesIfLets e flags d is v.scope c.made c.scope c.expansions) (sym h) l)))

  sound_iflets : (d : ℕ) (is : List IfLetTree) (s : Scope) (r : Typing (List TypedIfLet)) → elaborated_iflets e flags d is s ≡ Some r → ElaboratesIfLets e flags d is s r.made r.scope r.expansions
  sound_iflets d [] s r h = subst (λ (v : Typing (List TypedIfLet)). ElaboratesIfLets e flags d [] s v.made v.scope v.expansions) (same_Some _ _ h) no_iflet
  sound_iflets d (i ∷ is) s r h =
      let m = followed_gives _ (elaborated_iflet e flags d i s) (λ a. elaborated_iflets e flags d is a.scope) h in
      let f = followed_gives typed_iflet (elaborated_expr e (on_lhs flags) d i.expr None s) (λ a. elaborated_pattern e flags.multi d i.pattern (expr_type a.made) a.scope) m.2 in
      iflet_before d i is s f.0 f.1 m.0 m.1 r f.4 m.4 (exprs.sound e (on_lhs flags) d i.expr None s f.0 f.2) (patterns.sound e flags.multi d i.pattern (expr_type f.0.made) f.0.scope f.1 f.3)
      (sound_iflets d is m.0.scope m.1 m.3)

  deepen_iflets : {d n : ℕ} {is : List IfLetTree} {s t : Scope} {qs : List TypedIfLet} → ElaboratesIfLets e flags d is s qs t n → ElaboratesIfLets e flags (suc d) is s qs t n
  deepen_iflets no_iflet = no_iflet
  deepen_iflets (an_iflet g h i) = an_iflet (exprs.deepen e (on_lhs flags) g) (patterns.deepen e flags.multi h) (deepen_iflets i)

module _ (e : Setting) where
  complete : {d id n : ℕ} {r : RuleTree} {names : List (List ℕ)} {q : TypedRule} {t : Scope} → ElaboratesRule e d id r names q t n → elaborated_rule e d id r names ≡ Some (typing q t n)
  complete (a_rule {flags = flags} h i j k f g x) = rw (h, i, j, k, patterns.complete_parts e flags.multi f, complete_iflets e flags g, exprs.complete e flags x) refl

  -- a rule from its sides
  rule_from : (d id : ℕ) (r : RuleTree) (names : List (List ℕ)) (name : Name) (entry : TermEntry) (flags : Flags)
      → root_name r.pattern ≡ Some name → term_of e (new_scope names) name.text ≡ Some entry → declared_flags entry.kind ≡ Some flags → may_have_priority flags r ≡ true
      → (a : Typing TypedPatterns) (b : Typing (List TypedIfLet)) (c : Typing TypedExpr) (m : Typing (List TypedIfLet × TypedExpr)) (l : Typing Sides) (q : Typing TypedRule)
      → typing (last_sides b.made c.made) c.scope (b.expansions + c.expansions) ≡ m
      → typing (sides_of a.made m.made) m.scope (a.expansions + m.expansions) ≡ l
      → typing (rule_of_sides id r entry l.made l.scope) (with_own_name r.name l.scope) l.expansions ≡ q
      → ElaboratesParts e flags.multi d (root_parts r.pattern) entry.arg_tys (new_scope names) a.made a.scope a.expansions
      → ElaboratesIfLets e flags d r.iflets a.scope b.made b.scope b.expansions
      → ElaboratesExpr e flags d r.expr (Some entry.ret_ty) b.scope c.made c.scope c.expansions
      → ElaboratesRule e d id r names q.made q.scope q.expansions
  rule_from d id r names name entry flags h i j k a b c m l q u v w f g x =
      let whole : typing (sides_of a.made (last_sides b.made c.made)) c.scope (a.expansions + (b.expansions + c.expansions)) ≡ l =
      ap (λ (y : Typing (List TypedIfLet × TypedExpr)). typing (sides_of a.made y.made) y.scope (a.expansions + y.expansions)) u ∙ v in
      subst (λ (y : Typing TypedRule). ElaboratesRule e d id r names y.made y.scope y.expansions) w
      (subst (λ (y : Typing Sides). ElaboratesRule e d id r names (rule_of_sides id r entry y.made y.scope) (with_own_name r.name y.scope) y.expansions) whole (a_rule h i j k f g x))

  sound : (d id : ℕ) (r : RuleTree) (names : List (List ℕ)) (q : Typing TypedRule) → elaborated_rule e d id r names ≡ Some q → ElaboratesRule e d id r names q.made q.scope q.expansions
  sound d id r names q h =
      let m = then_gives (root_name r.pattern) _ h in
      let n = then_gives (term_of e (new_scope names) m.0.text) (λ t. rule_of_term e d id r (new_scope names) t) m.2 in
      let f = then_gives (declared_flags n.0.kind) _ n.2 in
      let p = if_gives (may_have_priority f.0 r) _ f.2 in
      let l = finished_gives id r n.0 (elaborated_sides e f.0 d r n.0 (new_scope names)) p.1 in
      let a = followed_gives sides_of (elaborated_parts e f.0.multi d (root_parts r.pattern) n.0.arg_tys (new_scope names))
      (λ a. followed last_sides (elaborated_iflets e f.0 d r.iflets a.scope) (λ b. elaborated_expr e f.0 d r.expr (Some n.0.ret_ty) b.scope)) {r = l.0} l.1 in
      let b = followed_gives last_sides (elaborated_iflets e f.0 d r.iflets a.0.scope) (λ b. elaborated_expr e f.0 d r.expr (Some n.0.ret_ty) b.scope) {r = a.1} a.3 in
      rule_from d id r names m.0 n.0 f.0 m.1 n.1 f.1 p.0 a.0 b.0 b.1 a.1 l.0 q b.4 a.4 l.2
      (patterns.parts_sound e f.0.multi d (root_parts r.pattern) n.0.arg_tys (new_scope names) a.0 a.2) (sound_iflets e f.0 d r.iflets a.0.scope b.0 b.2)
      (exprs.sound e f.0 d r.expr (Some n.0.ret_ty) b.0.scope b.1 b.3)

  deepen : {d id n : ℕ} {r : RuleTree} {names : List (List ℕ)} {q : TypedRule} {t : Scope} → ElaboratesRule e d id r names q t n → ElaboratesRule e (suc d) id r names q t n
  deepen (a_rule {flags = flags} h i j k f g x) = a_rule h i j k (patterns.deepen_parts e flags.multi f) (deepen_iflets e flags g) (exprs.deepen e flags x)

  raised : (k : ℕ) {d c id n : ℕ} {r : RuleTree} {names : List (List ℕ)} {q : TypedRule} {t : Scope} → k + d ≡ c → ElaboratesRule e d id r names q t n → ElaboratesRule e c id r names q t n
  raised zero {d} {c} {id} {n = n} {r = r} {names = names} {q = q} {t = t} h g = let i : d ≡ c = omega arith in subst (λ m. ElaboratesRule e m id r names q t n) i g
  raised (suc k) {d} {c} {id} {n = n} {r = r} {names = names} {q = q} {t = t} h g = let i : suc (k + d) ≡ c = omega arith in subst (λ m. ElaboratesRule e m id r names q t n) i (deepen (raised k refl g))

pub patterns_agree : PatternsAgree
patterns_agree e multi d p ty s q t n = (λ g. patterns.complete e multi g, λ h. patterns.sound e multi d p ty s (typing q t n) h)

pub exprs_agree : ExprsAgree
exprs_agree e flags d x ty s q t n = (λ g. exprs.complete e flags g, λ h. exprs.sound e flags d x ty s (typing q t n) h)

pub rules_agree : RulesAgree
rules_agree e d id r names q t n = (λ g. complete e g, λ h. sound e d id r names (typing q t n) h)

pub patterns_one_way : PatternsOneWay
patterns_one_way e multi c d p ty s q r t u n m g h = patterns.one_way e multi g h

pub exprs_one_way : ExprsOneWay
exprs_one_way e flags c d x ty s q r t u n m g h = exprs.one_way e flags g h

pub rules_one_way : RulesOneWay
rules_one_way e c d id r names p q t u n m g h =
    let i : c + d ≡ d + c = omega arith in
    let same = same_Some _ _ (sym (complete e (raised e d refl g)) ∙ complete e (raised e c i h)) in
    (ap (λ (v : Typing TypedRule). v.made) same, ap (λ (v : Typing TypedRule). v.scope) same, ap (λ (v : Typing TypedRule). v.expansions) same)

pub more_may_nest : MoreMayNest
more_may_nest e d c id r names q t n le g = let h : (c - d) + d ≡ c = omega arith in raised e (c - d) h g

few_gives : {X : Type 0} (o : Option (Typing X)) {r : Typing X} → few_enough o ≡ Some r → (o ≡ Some r) × (r.expansions ≤ most_expansions)
few_gives None h = absurd (cc)
few_gives (Some a) {r} h = let c = if_gives (nat_le a.expansions most_expansions) (Some a) h in (c.1, subst (λ (v : Typing _). v.expansions ≤ most_expansions) (same_Some _ _ c.1) (leb-true a.expansions most_expansions c.0))

pub typed_within_limits : TypedWithinLimits
typed_within_limits e id r names q t n =
    (λ g. rw (complete e g.0, le-leb n most_expansions g.1) refl, λ h. let f = few_gives (elaborated_rule e most_nested id r names) h in (sound e most_nested id r names (typing q t n) f.0, f.1))

with_gives : (q : TypedRule) (o : Option TypedRules) {l : TypedRules} → with_typed q o ≡ Some l → (m : TypedRules) × (o ≡ Some m) × (◌≡◌ {A = TypedRules} (record { rules = q ∷ m.rules; names = m.names }) l)
with_gives q o h = grind (arith, common_steps, same_Some)

lists_complete : (e : Setting) {id : ℕ} {rs : List RuleTree} {names after : List (List ℕ)} {qs : List TypedRule} → ElaboratesRules e id rs names qs after → typed_rules e id rs names ≡ Some (record { rules = qs; names = after })
lists_complete e no_rule = refl
lists_complete e (one_rule {n = n} g h i) = rw (complete e g, le-leb n most_expansions h, lists_complete e i) refl

lists_sound : (e : Setting) (id : ℕ) (rs : List RuleTree) (names : List (List ℕ)) (l : TypedRules) → typed_rules e id rs names ≡ Some l → ElaboratesRules e id rs names l.rules l.names
lists_sound e id [] names l h = subst (λ (m : TypedRules). ElaboratesRules e id [] names m.rules m.names) (same_Some _ _ h) no_rule
lists_sound e id (r ∷ rs) names l h =
    let m = then_gives (typed_rule e id r names) (λ a. with_typed a.made (typed_rules e (suc id) rs a.scope.names)) h in
    let f = few_gives (elaborated_rule e most_nested id r names) m.1 in
    let w = with_gives m.0.made (typed_rules e (suc id) rs m.0.scope.names) m.2 in
    subst (λ (m : TypedRules). ElaboratesRules e id (r ∷ rs) names m.rules m.names) w.2
    (one_rule (sound e most_nested id r names m.0 f.0) f.1 (lists_sound e (suc id) rs m.0.scope.names w.0 w.1))

pub lists_agree : ListsAgree
lists_agree e id rs names qs after = (λ g. lists_complete e g, λ h. lists_sound e id rs names (record { rules = qs; names = after }) h)
