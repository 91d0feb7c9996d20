use Rattle.std.proofs.lemmas.Result.{on_ok_weaker}
use Rattle.introspection.specs.Questions.{head_of}
use Rattle.introspection.proofs.questions.HeadSerialize.serialize.Goals as goal

pub returns : goal.returns
unfolding head_of
returns g c =
    let log = g.S.Serializer.written in
    let l1 = log c.key.new.self in
    let m1 = log c.str.new.self in
    let l2 = log c.key-2.new.self in
    let m2 = log c.send_key.new.out in
    let l3 = log c.key-3.new.self in
    let m3 = log c.send_reply.new.out in
    on_ok_weaker c.end_map.result (λ ended. (
      log c.begin_map.new.self,
      c.in_ok-begin_map.ensures,
      (
        l1,
        m1,
        c.in_ok-key.ensures,
        c.in_ok-str.ensures,
        (
          l2,
          m2,
          c.in_ok-key-2.ensures,
          c.in_ok-send_key.ensures,
          (l3, m3, c.in_ok-key-3.ensures, c.in_ok-send_reply.ensures, ended),
        ),
      ),
    )) c.end_map.ensures
