use Rattle.std.proofs.Common.{refl, codes}
use Rattle.plan_build.proofs.Named.{named}
use Rattle.plan_build.proofs.messages.put_message.Goals as goal

pub returns-in-MissingVariable : goal.returns-in-MissingVariable
returns-in-MissingVariable c =
    named _ _ _ (codes "missing variable") _ _ _ refl c.in-MissingVariable.is c.as_str-name.ensures
    c.put_named.ensures

pub returns-in-NoField : goal.returns-in-NoField
returns-in-NoField c =
    named _ _ _ (codes "no such field") _ _ _ refl c.in-NoField.is c.as_str-name.ensures
    c.put_named-in-NoField.ensures

pub returns-in-NoArgument : goal.returns-in-NoArgument
returns-in-NoArgument c =
    named _ _ _ (codes "bad argument") _ _ _ refl c.in-NoArgument.is c.as_str-name.ensures
    c.put_named-in-NoArgument.ensures

pub returns-in-MissingSession : goal.returns-in-MissingSession
returns-in-MissingSession c =
    named _ _ _ (codes "missing session variable") _ _ _ refl c.in-MissingSession.is c.as_str-name.ensures
    c.put_named-in-MissingSession.ensures

pub returns-in-BadSession : goal.returns-in-BadSession
returns-in-BadSession c =
    named _ _ _ (codes "bad session variable") _ _ _ refl c.in-BadSession.is c.as_str-name.ensures
    c.put_named-in-BadSession.ensures
