use Rattle.rust_text.proofs.NamesTold.{names_of_answers_tell_by}
use Rattle.rust_text.proofs.names_of_answers_tell.Goals as goal

pub returns : goal.returns
returns c = names_of_answers_tell_by c.lists_agree.ensures c.names_stay_in_lists.ensures c.types_stand_at_ids.ensures c.terms_have_names.ensures
