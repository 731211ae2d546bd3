-- One more source is that of the next name.
use Rattle.std.proofs.Common.{◌≡◌, ◌∙◌, ◌<◌, ℕ, None, List, length, map, take, slice_get, ap, arith}
use Rattle.std.proofs.lemmas.List.{take_all}
use Rattle.std.proofs.lemmas.List.Elements.{All-push}
use Rattle.named_files.specs.Entries.{bytes_of}
use Rattle.named_archives.specs.Progress.{bytes_left_in}
use Rattle.named_archives.proofs.Lists.{copied-item, map-more, map-next}
use Rattle.named_archives.proofs.named_source.sources_of.Goals as goal

pub loop-number-preserved : goal.loop-number-preserved
loop-number-preserved g c =
    let i = c.loop-number.invariant in
    let items = c.loop-number.sources.items in
    let n : ℕ = c.loop-number.number in
    let text = g.F.Name.FileName.text in
    let names : List g.row.F-Name.Denot = c.args.names.now in
    let name : g.row.F-Name.Denot = c.index-names-number.result in
    let source = c.new.result in
    let new = c.new.ensures in
    let below : n < length names = omega arith in
    let state : c.copied-state.result ≡ slice_get c.args.states.now n = c.copied-state.ensures
    ∙ copied-item c.args.states.now n c.get.result c.get.ensures.lookup in
    record {
      rest = rw c.in_ok-push.ensures.items (map-more
          (λ s. bytes_left_in g.F.File.Source.rest (bytes_of (g.F.Folder.holds s.folder.now (text s.name.now))) s.file
          s.progress)
          (λ k. bytes_of (g.F.Folder.holds c.args.folder.now (text k))) items source names n name i.rest below
          c.index-names-number.is new.rest);
      names = rw c.in_ok-push.ensures.items (map-more (λ s. text s.name.now) (λ k. text k) items source names n name
          i.names below c.index-names-number.is (ap text new.name));
      states = rw c.in_ok-push.ensures.items (map-next (λ s. s.state) (slice_get c.args.states.now) items source n
          i.states (new.state ∙ state));
      fresh = rw c.in_ok-push.ensures.items (All-push (λ s. (s.failures ≡ 0) × (s.file ≡ None)) items source i.fresh
          (new.failures, new.file));
    }

pub returns-clause-rest : goal.returns-clause-rest
returns-clause-rest g c =
    let names : List g.row.F-Name.Denot = c.args.names.now in
    let n : ℕ = c.loop-number.number in
    let all : take n names ≡ names = take_all n names (omega arith) in
    c.loop-number.invariant.rest
    ∙ ap (map (λ k. bytes_of (g.F.Folder.holds c.args.folder.now (g.F.Name.FileName.text k)))) all
