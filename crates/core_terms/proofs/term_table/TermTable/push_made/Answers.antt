use Rattle.std.proofs.Common.{◌≡◌, map, length, ◌∙◌, rules}
use Rattle.model.specs.rules.Values.{field_types}
use Rattle.core_syntax.specs.SyntaxViews.{position}
use Rattle.core_types.specs.TypeViews.{fields_view}
use Rattle.core_terms.specs.TermViews.{kind_view}
use Rattle.core_terms.specs.Signing.{made_entry}
use Rattle.core_terms.proofs.Making.{types_of_fields, pushed_entry, within_push}
use Rattle.core_terms.proofs.TermMaps.{read_ids}
use Rattle.core_terms.proofs.term_table.TermTable.push_made.Goals as goal

pub returns-clause-pushes : goal.returns-clause-pushes
returns-clause-pushes c =
    let n : c.len.result ≡ length c.args.self.now.terms.items = c.len.ensures ∙ c.args.self.now.terms.ok.0 in
    let tys : map (λ t. t.0) c.in_ok-arg_tys.arg_tys.items ≡ field_types (fields_view c.args.fields.now) = c.in_ok-arg_tys.ensures ∙ types_of_fields (fields_view c.args.fields.now) in
    record {
      ids = λ k. rw (← n) (read_ids c.args.self.now.term_map c.insert.new.self c.args.name _ c.in_ok-insert.ensures.has k);
      terms = rw (← n) (pushed_entry c.args.self.now.terms.items c.push.new.self.items _ (made_entry c.args.name.0 c.args.ret_ty.0 (fields_view c.args.fields.now) (position c.args.decl_pos) (kind_view c.args.kind)) c.len.result c.in_ok-push.ensures.items (rw tys));
      converters = search rules;
    }

pub returns-clause-within : goal.returns-clause-within
returns-clause-within c = within_push c.args.name.0 _ c.args.self.now _ (returns-clause-pushes c) c.requires
