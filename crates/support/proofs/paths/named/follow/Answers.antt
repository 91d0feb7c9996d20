use Rattle.support.proofs.PathTexts.{follow_plain}
use Rattle.support.proofs.paths.named.follow.Goals as goal

pub returns-in_ok-push-in_default : goal.returns-in_ok-push-in_default
returns-in_ok-push-in_default c =
    let pushed = c.in_ok-push-in_default.ensures.items in
    follow_plain c.args.folder.now.items c.push.new.self.items c.args.part c.in_default.not-empty c.in_default.not-text c.in_default.not-text-2 pushed
