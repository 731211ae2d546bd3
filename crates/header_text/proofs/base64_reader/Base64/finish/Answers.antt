-- `Base64::finish` adds the bytes of two or three symbols, because these come first in the group that `A` fills up.
use Rattle.header_text.proofs.Words.{◌≡◌, ◌++◌, ℕ, List, [], ◌∷◌, length, arith, append-nil, take_all, symbols_of}
use Rattle.std.proofs.lemmas.List.{length-take}
use Rattle.header_text.proofs.WordLaws.GroupLemmas.{AreSymbols}
use Rattle.header_text.proofs.WordLaws.ReaderLemmas.{short-bytes, kept, to_come-end, filled-symbols, held-symbols}
use Rattle.header_text.proofs.base64_reader.Base64.finish.Goals as goal

pub returns-then-held-lt2-clause-bytes : goal.returns-then-held-lt2-clause-bytes
returns-then-held-lt2-clause-bytes c = rw
    (to_come-end (symbols_of c.args.self.held)
    (held-symbols c.args.self.held.symbols c.args.self.held.count c.args.self.held.all) c.args.self.ended)
    (grind (arith, append-nil, length-take, short-bytes))

pub decode_groups-outcome-requires-clause-symbols : goal.decode_groups-outcome-requires-clause-symbols
decode_groups-outcome-requires-clause-symbols c =
    let held : List ℕ = symbols_of c.args.self.held in
    let size : length held ≡ c.args.self.held.count =
    omega arith in
    let are : AreSymbols held = grind (arith, held-symbols) in
    grind (arith, filled-symbols)

pub returns-clause-bytes : goal.returns-clause-bytes
returns-clause-bytes c = rw (to_come-end (symbols_of c.args.self.held)
    (held-symbols c.args.self.held.symbols c.args.self.held.count c.args.self.held.all) c.args.self.ended)
    (grind (arith, length-take, AreSymbols, kept, held-symbols))

pub returns-clause-refused : goal.returns-clause-refused
returns-clause-refused c = grind (arith, take_all)
