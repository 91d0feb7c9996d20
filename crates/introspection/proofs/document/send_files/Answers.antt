use Rattle.std.proofs.Common.{refl}
use Rattle.std.proofs.lemmas.Result.{on_ok_weaker}
use Rattle.serde_json.specs.Data.{string}
use Rattle.std.proofs.Common.{string_bytes}
use Rattle.introspection.specs.Document.{strings}
use Rattle.introspection.proofs.Lists.{list_sends}
use Rattle.introspection.proofs.ReadBack.{reads_two}
use Rattle.introspection.proofs.document.send_files.Goals as goal

pub returns : goal.returns
returns g c =
    let w = c.args.project.now in
    let log = g.S.Serializer.written in
    let absent = list_sends string string_bytes c.absent.result.now w.absent (log c.key.new.self) (log c.send_list.new.out) c.absent.ensures c.in_ok-send_list.ensures in
    let present = list_sends string string_bytes c.present.result.now w.present (log c.key-2.new.self) (log c.send_list-2.new.out) c.present.ensures c.in_ok-send_list-2.ensures in
    on_ok_weaker c.end_map.result (λ ended. record {
      events = (
        log c.begin_map.new.self,
        c.in_ok-begin_map.ensures,
        (
          log c.key.new.self,
          log c.send_list.new.out,
          c.in_ok-key.ensures,
          absent.events,
          (log c.key-2.new.self, log c.send_list-2.new.out, c.in_ok-key-2.ensures, present.events, ended),
        ),
      );
      reads = reads_two (strings w.absent) (strings w.present) absent.reads present.reads;
    }) c.end_map.ensures
