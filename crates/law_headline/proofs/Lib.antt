mod Gets
mod Failing
