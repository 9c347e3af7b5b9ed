use Rattle.rust_text.proofs.CodeOfTerms.{each_term_is_in_its_code_lem}
use Rattle.rust_text.proofs.each_term_is_in_its_code.Goals as goal

pub returns : goal.returns
returns c =
    each_term_is_in_its_code_lem c.text_of_accepted_says_its_source.ensures c.names_are_whole.ensures c.functions_apart_are_pure_alike.ensures c.pure_functions_call_alike.ensures
    c.fronts_are_closed.ensures
