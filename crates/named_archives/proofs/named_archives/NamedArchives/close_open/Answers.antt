-- If no call has failed, the file that is closed was found in its state, which is one of all states.
use Rattle.std.proofs.Common.{◌≡◌, ◌∙◌, ◌∷◌, List, All, Some, sym, subst}
use Rattle.std.proofs.lemmas.List.Elements.{All-cons}
use Rattle.named_archives.specs.States.{IsInOneOf}
use Rattle.named_archives.proofs.Noted.{contained-at, in-one-of}
use Rattle.named_archives.proofs.named_archives.NamedArchives.close_open.Goals as goal

pub invariant_of-self-clause-closed_in_state : goal.invariant_of-self-clause-closed_in_state
invariant_of-self-clause-closed_in_state g c = λ none.
    let a = c.args.self.now in
    let states : List g.row.F-File-State.Denot = a.states.now in
    let found = g.F.File.KeptFile.state_found in
    let ahead = c.in-Some.ahead in
    let there : a.current ≡ Some ahead = sym c.take.ensures.value ∙ c.in-Some.is in
    let one : IsInOneOf states (found ahead.file) = in-one-of states (found ahead.file) ahead.state
    (a.in_state none ahead there) (contained-at states a.number ahead.state (a.opened ahead there).0) in
    let here : IsInOneOf states (found c.into_file.result) =
    subst (λ (f : g.row.F-File.Denot). IsInOneOf states (found f)) (sym c.into_file.ensures) one in
    subst (λ l. All (IsInOneOf states) l) (sym c.take_back.ensures.found)
    (All-cons (IsInOneOf states) (found c.into_file.result) (g.F.Folder.found a.closed) here (a.closed_in_state none))
