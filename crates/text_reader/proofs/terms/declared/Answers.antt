use Rattle.text_reader.proofs.Rows.{names-viewed}
use Rattle.text_reader.proofs.terms.declared.Goals as goal

pub returns-clause-within : goal.returns-clause-within
returns-clause-within c =
    (c.in_ok-term.ensures.within, names-viewed c.args.at.file c.args.at.len c.in_ok-arg_tys.arg_tys.items c.in_ok-arg_tys.ensures.within, c.in_ok-ret_ty.ensures.within, c.requires.pos)
