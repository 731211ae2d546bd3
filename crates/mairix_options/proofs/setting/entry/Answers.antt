-- `entry` reads a line as the definition does, by its three cases: it isn't UTF-8, it has an `=`, or it has none.
use Rattle.mairix_options.proofs.Words.{◌==◌, ◌∙◌, sym, ap, subst, lit<, Result, Some, None, before_first, after_first, split_once_first, Gives, text_without_blanks, refusal, RcFault, Setting}
use Rattle.mairix_options.proofs.Entries.{entry-not_utf8, entry-assigned, entry-no_value}
use Rattle.mairix_options.proofs.setting.entry.Goals as goal

pub returns-in_default : goal.returns-in_default
returns-in_default c = entry-not_utf8 c.args.base.now c.args.number c.args.text.now c.in_default.ensures.cases.0

pub returns-in-Some : goal.returns-in-Some
returns-in-Some c =
    let text = c.in-Ok.ensures.cases in
    let parts = split_once_first 61 c.in-Ok.text.now (Some (c.in-Some.option, c.in-Some.value)) c.in-Some.ensures.cases
    (lit< tt) in
    let says = entry-assigned c.args.base.now c.args.number c.args.text.now c.trimmed_text.result.now
    c.trimmed_text-in-Some.result.now text.1
    (c.trimmed_text.ensures ∙ ap text_without_blanks (parts.1 ∙ ap (before_first (λ b. b == 61)) text.0))
    (c.trimmed_text-in-Some.ensures ∙ ap text_without_blanks (parts.2 ∙ ap (after_first (λ b. b == 61)) text.0)) in
    subst (λ (r : Result Setting RcFault). Gives (λ s. s) refusal c.assigned.result r) (sym says) c.assigned.ensures

pub returns-in-None : goal.returns-in-None
returns-in-None c =
    let text = c.in-Ok.ensures.cases in
    let none = split_once_first 61 c.in-Ok.text.now None c.in-None.ensures.cases (lit< tt) in
    ap (Rattle.mairix_options.specs.Rcfile.entry c.args.base.now c.args.number) (sym text.0)
    ∙ entry-no_value c.args.base.now c.args.number c.in-Ok.text.now
    (subst Rattle.std.specs.Str.IsUtf8 (sym text.0) text.1) none
