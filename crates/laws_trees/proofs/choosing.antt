-- What the choice by priority doesn't depend on.
pub mod OtherRules
pub mod Terms
