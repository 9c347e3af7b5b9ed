-- How rules are read as if each term had a constructor: whether each has one is looked for behind all rules, where nothing else is
-- wrong.
use Rattle.std.specs.Prelude.{ℕ, suc, List, [], ◌∷◌, filter, map, Option, Some, None, is_some, if◌then◌else◌}
use Rattle.model.specs.lists.Syntax.{IfLetTree, RuleTree}
use Rattle.model.specs.lists.Tables.{Flags, internal_constructor, TermKindEntry, variant_term, struct_term, declared_term, TermEntry}
use Rattle.model.specs.lists.TermTable.{root_name}
use Rattle.model.specs.rules.Outcome.{then_option}
use Rattle.model.specs.rules.Typed.{TypedIfLet, TypedExpr, TypedRule}
use Rattle.model.specs.lists.Setting.{Setting, Scope, new_scope, term_of, declared_flags, on_lhs, expr_type, expr_converter}
use Rattle.model.specs.lists.Typings.{Typing, plain, followed}
use Rattle.model.specs.lists.Elaborated.{typed_iflet, root_parts, elaborated_pattern, elaborated_parts, elaborated_expr, Sides, sides_of, last_sides, finished_rule, may_have_priority, few_enough, most_nested, TypedRules, with_typed}

-- a term with a constructor
abbrev pub made_kind : TermKindEntry → TermKindEntry
made_kind (variant_term variant) = variant_term variant
made_kind struct_term = struct_term
made_kind (declared_term flags constructor_kind extractor_kind) = declared_term flags (Some internal_constructor) extractor_kind

abbrev pub made_entry : TermEntry → TermEntry
made_entry t = record t { kind = made_kind t.kind }

-- each term has a constructor, and the same converters convert expressions as before
abbrev pub all_made : Setting → Setting
all_made e = record e { terms = map made_entry e.terms; converters = filter (λ k. is_some (expr_converter e k.0.0 k.0.1)) e.converters }

-- the expression of an if-let, at any type, then its pattern at that type
abbrev pub iflet_reading : Setting → Flags → ℕ → IfLetTree → Scope → Option (Typing TypedIfLet)
iflet_reading e flags d i s =
    followed typed_iflet (elaborated_expr (all_made e) (on_lhs flags) d i.expr None s) (λ a. elaborated_pattern e flags.multi d i.pattern (expr_type a.made) a.scope)

-- if-lets in order
abbrev pub iflets_reading : Setting → Flags → ℕ → List IfLetTree → Scope → Option (Typing (List TypedIfLet))
iflets_reading e flags d [] s = Some (plain [] s)
iflets_reading e flags d (i ∷ is) s = followed ◌∷◌ (iflet_reading e flags d i s) (λ a. iflets_reading e flags d is a.scope)

-- if-lets in order, then the right side at the type of what the term makes
abbrev pub ends_reading : Setting → Flags → ℕ → RuleTree → TermEntry → Scope → Option (Typing (List TypedIfLet × TypedExpr))
ends_reading e flags d r t s = followed last_sides (iflets_reading e flags d r.iflets s) (λ b. elaborated_expr (all_made e) flags d r.expr (Some t.ret_ty) b.scope)

-- arguments at the types of the rule's term, then the rest
abbrev pub sides_reading : Setting → Flags → ℕ → RuleTree → TermEntry → Scope → Option (Typing Sides)
sides_reading e flags d r t s = followed sides_of (elaborated_parts e flags.multi d (root_parts r.pattern) t.arg_tys s) (λ a. ends_reading e flags d r t a.scope)

-- a rule of an entry of the term table, under that term's flags
abbrev pub rule_of_entry : Setting → ℕ → ℕ → RuleTree → TermEntry → Flags → Scope → Option (Typing TypedRule)
rule_of_entry e d id r t flags s = if may_have_priority flags r then finished_rule id r t (sides_reading e flags d r t s) else None

-- a rule of a declared term, where so many expansions may nest
abbrev pub rule_reading : Setting → ℕ → ℕ → RuleTree → Scope → Option (Typing TypedRule)
rule_reading e d id r s =
    then_option (root_name r.pattern) (λ n. then_option (term_of e s n.text) (λ t. then_option (declared_flags t.kind) (λ flags. rule_of_entry e d id r t flags s)))

-- within the limits, from the names met before it
abbrev pub rule_within : Setting → ℕ → RuleTree → List (List ℕ) → Option (Typing TypedRule)
rule_within e id r names = few_enough (rule_reading e most_nested id r (new_scope names))

-- rules in order, the first of which has this id
abbrev pub rules_within : Setting → ℕ → List RuleTree → List (List ℕ) → Option TypedRules
rules_within e id [] names = Some (record { rules = []; names = names })
rules_within e id (r ∷ rs) names = then_option (rule_within e id r names) (λ a. with_typed a.made (rules_within e (suc id) rs a.scope.names))
