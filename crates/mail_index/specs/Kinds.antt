-- The numbers of the kinds in an index file, by which keys are ordered.
use Rattle.std.specs.Prelude.{ℕ, zero, suc, Bool, nat_le, ◌&&◌}
use Rattle.mail_words.specs.declared.kind.TextKind.TheVariants.{To, Cc, Bcc, From, Subject, Body, Name}
use Rattle.mail_index.specs.declared.kind.Kind.{Kind}
use Rattle.mail_index.specs.declared.kind.Kind.TheVariants.{Text, OwnId, LinkId}

-- the number of a kind
abbrev pub kind_number : Kind → ℕ
kind_number (Text To) = 1
kind_number (Text Cc) = 2
kind_number (Text Bcc) = 3
kind_number (Text From) = 4
kind_number (Text Subject) = 5
kind_number (Text Body) = 6
kind_number OwnId = 7
kind_number LinkId = 8
kind_number (Text Name) = 9

-- whether this is the number of a kind, if `last` is the greatest
abbrev pub is_kind_number : ℕ → ℕ → Bool
is_kind_number last n = nat_le 1 n && nat_le n last

-- the kind of a number: for 0 that of 1, and for numbers above 9 that of 9
abbrev pub kind_of_number : ℕ → Kind
kind_of_number zero = Text To
kind_of_number (suc zero) = Text To
kind_of_number (suc (suc zero)) = Text Cc
kind_of_number (suc (suc (suc zero))) = Text Bcc
kind_of_number (suc (suc (suc (suc zero)))) = Text From
kind_of_number (suc (suc (suc (suc (suc zero))))) = Text Subject
kind_of_number (suc (suc (suc (suc (suc (suc zero)))))) = Text Body
kind_of_number (suc (suc (suc (suc (suc (suc (suc zero))))))) = OwnId
kind_of_number (suc (suc (suc (suc (suc (suc (suc (suc zero)))))))) = LinkId
kind_of_number (suc (suc (suc (suc (suc (suc (suc (suc (suc n))))))))) = Text Name
