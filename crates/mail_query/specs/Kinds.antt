-- Sets of the kinds of text in which a query looks for a word.
use Rattle.std.specs.Prelude.{Bool, false, ◌||◌}
use Rattle.mail_words.specs.declared.kind.TextKind.{TextKind}
use Rattle.mail_words.specs.declared.kind.TextKind.TheVariants.{To, Cc, Bcc, From, Subject, Body, Name}
use Rattle.mail_query.specs.declared.kinds.Kinds.{Kinds}

-- whether the kind of text is in the set
abbrev pub has_kind : Kinds → TextKind → Bool
has_kind kinds To = kinds.to
has_kind kinds Cc = kinds.cc
has_kind kinds Bcc = kinds.bcc
has_kind kinds From = kinds.from
has_kind kinds Subject = kinds.subject
has_kind kinds Body = kinds.body
has_kind kinds Name = kinds.name

-- the empty set
abbrev pub no_kinds : Kinds
no_kinds =
    record {
      to = false;
      cc = false;
      bcc = false;
      from = false;
      subject = false;
      body = false;
      name = false;
      own_id =
          false;
    }

-- all that is in one set or the other
abbrev pub union : Kinds → Kinds → Kinds
union a b = record {
  to = a.to || b.to;
  cc = a.cc || b.cc;
  bcc = a.bcc || b.bcc;
  from = a.from || b.from;
  subject = a.subject || b.subject;
  body = a.body || b.body;
  name = a.name || b.name;
  own_id = a.own_id || b.own_id;
}
