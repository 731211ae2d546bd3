-- What each node of a walk still gives.
use Rattle.std.specs.Prelude.{◌+◌}
use Rattle.mail_answer.specs.CursorAhead.{WalkAhead, common, union_of, others, steps_left_in, postings_in, levels}
use Rattle.mail_answer.specs.declared.cursor.walk.Node.{Node}
use Rattle.mail_answer.specs.declared.cursor.walk.Node.TheVariants.{Listed, Marked, Scanned, Others, Common, United}

-- the truths, steps, postings and levels of a node, from those of its parts
abbrev pub ahead_of_node : Node → WalkAhead
ahead_of_node (Listed list) = record { truths = list.truths; left = list.left; postings = list.left; below = 0 }
ahead_of_node (Marked marked) = record {
  truths = marked.value.truths;
  left = marked.value.left;
  postings = marked.value.left;
  below = 0;
}
ahead_of_node (Scanned scan) = record { truths = scan.value.truths; left = scan.value.left; postings = 0; below = 0 }
ahead_of_node (Others o) = record {
  truths = others o.count o.low o.inner.value.truths;
  left = o.inner.value.left;
  postings =
      o.inner.value.postings;
  below = o.inner.value.below + 1;
}
ahead_of_node (Common members) = record {
  truths = common members.items;
  left = steps_left_in members.items;
  postings =
      postings_in members.items;
  below = levels members.items;
}
ahead_of_node (United members) = record {
  truths = union_of members.items;
  left = steps_left_in members.items;
  postings =
      postings_in members.items;
  below = levels members.items;
}
