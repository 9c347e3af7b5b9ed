use Rattle.std.proofs.Common.{◌≡◌, None, refl, sym, inl, inr, ◌∙◌, rules}
use Rattle.std.proofs.lemmas.Result.{on_ok_weaker}
use Rattle.core_syntax.specs.SyntaxViews.{converter_view}
use Rattle.core_terms.specs.Converting.{converter_at}
use Rattle.core_terms.proofs.ConverterSteps.{read_conversions}
use Rattle.core_terms.proofs.NotedPositions.{noted_among, converter_first, converter_inner, converter_outer, converter_term}
use Rattle.core_types.proofs.ToldErrors.{noted_among as told_among}
use Rattle.core_terms.proofs.Making.{none_mapped, some_mapped}
use Rattle.core_terms.proofs.term_table.TermTable.read_converter.Goals as goal

pub returns-in_default-clause-reads : goal.returns-in_default-clause-reads
returns-in_default-clause-reads c =
    on_ok_weaker c.report_name.result (λ r. inr (told_among 1 _ _ _ _ (converter_inner (converter_view c.args.converter.now)) r, refl, inl (search rules))) c.report_name.ensures.told

pub returns-in_default-get_type_by_name-clause-reads : goal.returns-in_default-get_type_by_name-clause-reads
returns-in_default-get_type_by_name-clause-reads c =
    on_ok_weaker c.report_name-in_default-get_type_by_name.result (λ r. inr (told_among 1 _ _ _ _ (converter_outer (converter_view c.args.converter.now)) r, refl, inr (inl (search rules)))) c.report_name-in_default-get_type_by_name.ensures.told

pub returns-in_default-find_term-clause-reads : goal.returns-in_default-find_term-clause-reads
returns-in_default-find_term-clause-reads c =
    on_ok_weaker c.report_name-in_default-find_term.result (λ r. inr (told_among 1 _ _ _ _ (converter_term (converter_view c.args.converter.now)) r, refl, inr (inr (inl (search rules))))) c.report_name-in_default-find_term.ensures.told

pub returns-then-contains_key-clause-reads : goal.returns-then-contains_key-clause-reads
returns-then-contains_key-clause-reads c =
    let taken = some_mapped (λ t. t.0) _ (sym c.contains_key.ensures.value ∙ c.if-contains_key.true) in
    on_ok_weaker c.report_converted.result (λ r. inr (
      told_among 1 _ _ _ _ (converter_first (converter_view c.args.converter.now)) r,
      refl,
      inr (inr (inr (record {
        inner = c.in-Some.inner.0;
        outer = c.in-Some-get_type_by_name.outer.0;
        id = taken.0;
        inner_is = sym c.in-Some.ensures;
        outer_is = sym c.in-Some-get_type_by_name.ensures;
        taken = taken.1;
      }))),
    )) c.report_converted.ensures.told

pub returns-clause-reads : goal.returns-clause-reads
returns-clause-reads c =
    let free : converter_at c.args.self.now c.in-Some.inner.0 c.in-Some-get_type_by_name.outer.0 ≡ None = none_mapped (λ t. t.0) _ (sym c.contains_key.ensures.value ∙ c.if-contains_key.false) in
    inl (
      refl,
      record {
        inner = c.in-Some.inner.0;
        outer = c.in-Some-get_type_by_name.outer.0;
        term = c.in-Some-find_term.term.0;
        inner_is = sym c.in-Some.ensures;
        outer_is = sym c.in-Some-get_type_by_name.ensures;
        term_is = sym c.in-Some-find_term.ensures;
        free = free;
        conversions = read_conversions c.args.self.now.converters c.insert.new.self c.in-Some.inner c.in-Some-get_type_by_name.outer c.in-Some-find_term.term c.in_ok-insert.ensures.has;
        terms = refl;
        term_map = refl;
      },
    )

pub returns-in_default-clause-places : goal.returns-in_default-clause-places
returns-in_default-clause-places c = noted_among c.report_name.result _ _ _ _ (converter_inner (converter_view c.args.converter.now)) c.report_name.ensures.places

pub returns-in_default-get_type_by_name-clause-places :
    goal.returns-in_default-get_type_by_name-clause-places
returns-in_default-get_type_by_name-clause-places c = noted_among c.report_name-in_default-get_type_by_name.result _ _ _ _ (converter_outer (converter_view c.args.converter.now)) c.report_name-in_default-get_type_by_name.ensures.places

pub returns-in_default-find_term-clause-places : goal.returns-in_default-find_term-clause-places
returns-in_default-find_term-clause-places c = noted_among c.report_name-in_default-find_term.result _ _ _ _ (converter_term (converter_view c.args.converter.now)) c.report_name-in_default-find_term.ensures.places

pub returns-then-contains_key-clause-places : goal.returns-then-contains_key-clause-places
returns-then-contains_key-clause-places c = noted_among c.report_converted.result _ _ _ _ (converter_first (converter_view c.args.converter.now)) c.report_converted.ensures.places
